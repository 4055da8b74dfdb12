-- One store is a write of one character. Assumes nothing.
use Rattle.std.proofs.Common.{refl, length-set, rules}
use Rattle.hexadecimal.specs.HexLaws.{put_one}
use Rattle.explain_words.proofs.Page.put.Goals as goal

pub returns : goal.returns
returns c = (refl, record { same = refl; kept = simp length-set; said = record { text = put_one _ _ _ (search rules); place = refl } })
