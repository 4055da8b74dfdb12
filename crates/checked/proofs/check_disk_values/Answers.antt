-- Each list is tested from its own place on, in the order of the places. Assumes nothing.
use Rattle.std.proofs.Common.{refl, ◌∙◌}
use Rattle.std.proofs.lemmas.Result.{err_from_is_err_and}
use Rattle.data.specs.Disk.{the_disk}
use Rattle.checked.specs.CheckedLaws.{disk_places_lem}
use Rattle.checked.proofs.check_disk_values.Goals as goal

pub returns-in_err-check_values : goal.returns-in_err-check_values
returns-in_err-check_values c =
    let a = c.args in
    let same = a.d.sized in
    let tested = disk_places_lem (the_disk a.d) a.base0 a.base1 refl same.y same.v same.a in
    let p = err_from_is_err_and c.from_residual.result c.from_residual.ensures.1 in
    rw (p.1, p.2) (rw (← c.in_err-check_values.ensures) at tested)

pub returns-in_err-check_values-2 : goal.returns-in_err-check_values-2
returns-in_err-check_values-2 c =
    let a = c.args in
    let same = a.d.sized in
    let tested = disk_places_lem (the_disk a.d) a.base0 a.base1 refl same.y same.v same.a in
    let p = err_from_is_err_and c.from_residual-in_err-check_values-2.result c.from_residual-in_err-check_values-2.ensures.1 in
    rw (p.1, p.2) (rw (← c.in_ok-check_values.ensures, ← c.in_err-check_values-2.ensures) at tested)

pub returns-in_err-check_values-3 : goal.returns-in_err-check_values-3
returns-in_err-check_values-3 c =
    let a = c.args in
    let same = a.d.sized in
    let tested = disk_places_lem (the_disk a.d) a.base0 a.base1 refl same.y same.v same.a in
    let p = err_from_is_err_and c.from_residual-in_err-check_values-3.result c.from_residual-in_err-check_values-3.ensures.1 in
    rw (p.1, p.2) (rw (← c.in_ok-check_values.ensures, ← c.in_ok-check_values-2.ensures, ← c.in_err-check_values-3.ensures) at tested)

pub returns-in_err-check_values-4 : goal.returns-in_err-check_values-4
returns-in_err-check_values-4 c =
    let a = c.args in
    let same = a.d.sized in
    let tested = disk_places_lem (the_disk a.d) a.base0 a.base1 refl same.y same.v same.a in
    let p = err_from_is_err_and c.from_residual-in_err-check_values-4.result c.from_residual-in_err-check_values-4.ensures.1 in
    rw (p.1, p.2) (rw (
      ← c.in_ok-check_values.ensures,
      ← c.in_ok-check_values-2.ensures,
      ← c.in_ok-check_values-3.ensures,
      ← c.in_err-check_values-4.ensures,
    ) at tested)

pub returns-in_err-check_values-5 : goal.returns-in_err-check_values-5
returns-in_err-check_values-5 c =
    let a = c.args in
    let same = a.d.sized in
    let tested = disk_places_lem (the_disk a.d) a.base0 a.base1 refl same.y same.v same.a in
    let p = err_from_is_err_and c.from_residual-in_err-check_values-5.result c.from_residual-in_err-check_values-5.ensures.1 in
    rw (p.1, p.2) (rw (
      ← c.in_ok-check_values.ensures,
      ← c.in_ok-check_values-2.ensures,
      ← c.in_ok-check_values-3.ensures,
      ← c.in_ok-check_values-4.ensures,
      ← c.in_err-check_values-5.ensures,
    ) at tested)

pub returns : goal.returns
returns c =
    let a = c.args in
    let same = a.d.sized in
    let tested = disk_places_lem (the_disk a.d) a.base0 a.base1 refl same.y same.v same.a in
    c.check_values-6.ensures ∙ (rw (
      ← c.in_ok-check_values.ensures,
      ← c.in_ok-check_values-2.ensures,
      ← c.in_ok-check_values-3.ensures,
      ← c.in_ok-check_values-4.ensures,
      ← c.in_ok-check_values-5.ensures,
    ) at tested)
