use mathlib.Core.Path.{◌≡◌}
use lib.ListN.{drop}
use Rattle.digits.proofs.Left.{number_left}
use Rattle.rules.specs.TableText.{digits_of}
use Rattle.digits.proofs.fill.Given as goal

abbrev pub invariant-loop-place : goal.invariant-loop-place
invariant-loop-place l = record {
  left : l.rest ≡ number_left (digits_of l.n) l.place;
  written : drop l.place l.part ≡ drop l.place (digits_of l.n);
}
