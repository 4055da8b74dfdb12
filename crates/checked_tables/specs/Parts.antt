-- What the contracts of crates/checked_tables speak of besides the definitions. Definitions only.
use Rattle.std.specs.Prelude.{◌≡◌, ◌<◌, length, Ok, Err}
use Rattle.floats.specs.Rows.{Row}
use Rattle.seed_models.specs.Words.{ring_samples, most_tables, held_in}
use Rattle.checked_tables.specs.Tables.{TableAnswer, table_refusal}

-- a table that is not refused has its angles and a place
abbrev pub TableTested : Row → Row → TableAnswer → Type 0
TableTested words angles (Err e) = Err e ≡ table_refusal words angles
TableTested words angles (Ok u) = (length angles ≡ ring_samples) × (held_in words < most_tables) × (Ok u ≡ table_refusal words angles)
