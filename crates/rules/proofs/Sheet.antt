-- The starred examples of document 01 are right: each is what the definitions give.
use Rattle.std.specs.Prelude.{refl}
use Rattle.rules.specs.Case.{AllRight, wrong}
use Rattle.rules.specs.Sheet.{sheet}

-- The starred examples are what the rules give, each by computation; where one is not, antt prints what they give.
pub sheet_right : AllRight sheet
unfolding sheet wrong
sheet_right = (refl, (refl, (refl, (refl, (refl, (refl, (refl, (refl, (refl, (refl, (refl, (refl, (refl, (refl, tt))))))))))))))
