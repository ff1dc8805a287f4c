-- Our own cases are right: each is what the definitions give.
use Rattle.std.specs.Prelude.{refl}
use Rattle.rules.specs.Case.{AllRight, wrong}
use Rattle.rules.specs.Cases.{cases}

pub cases_right : AllRight cases
unfolding cases wrong
cases_right = (refl, (refl, (refl, (refl, (refl, (refl, (refl, (refl, (refl, (refl, (refl, (refl, (refl, (refl, (refl, (refl, (refl, (refl, (refl, (refl, (refl, (refl, (refl, (refl, tt))))))))))))))))))))))))
