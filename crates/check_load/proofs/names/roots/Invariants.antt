use Rattle.std.proofs.Common.{◌≡◌, ◌||◌, ℕ, List, ◌∷◌, drop, false}
use Rattle.std.specs.List.{list_any}
use Rattle.std.specs.Str.{bytes_eq}
use Rattle.command.specs.Views.{texts_of}
use Rattle.check_load.specs.Places.{AreWokenSince, none_asked}
use Rattle.check_load.specs.Names.{defines_name, requests_name}
use Rattle.check_load.proofs.names.roots.Given as goal

abbrev pub invariant-loop-name : goal.invariant-loop-name
invariant-loop-name l = record {
  requested :
      (n : List ℕ) → (list_any (λ root. bytes_eq root n) (texts_of (drop l.name-index l.undefined)) || requests_name l.names n)
      ≡ list_any (λ root. bytes_eq root n) (l.entry ∷ texts_of l.undefined);
  defined : (n : List ℕ) → defines_name l.names n ≡ false;
  woken : AreWokenSince l.places none_asked l.names l.awake;
}
