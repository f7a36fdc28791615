use Rattle.std.proofs.Common.{◌≡◌, ◌||◌, ℕ, List, drop, length, true}
use Rattle.elf_model.specs.Inputs.ObjectFile.{symbols}
use Rattle.check_load.specs.Awake.{is_awake}
use Rattle.check_load.specs.NameNumbers.{KeepNumbers}
use Rattle.check_load.specs.Numbered.{AreNumbersOf}
use Rattle.check_load.specs.Places.{AreWokenSince}
use Rattle.check_load.specs.Names.{asked_from, asked_in, defined_from, defined_in, defines_name, requests_name}
use Rattle.check_load.proofs.names.note_object.Given as goal

abbrev pub invariant-loop-j : goal.invariant-loop-j
invariant-loop-j l = record {
  requested : (n : List ℕ) → (asked_from l.object l.dropped (drop l.j (symbols l.object)) n || requests_name l.names n)
      ≡ (asked_in l.object l.dropped n || requests_name l.fn.names n);
  defined : (n : List ℕ) → (defined_from l.object l.dropped (drop l.j (symbols l.object)) n || defines_name l.names n)
      ≡ (defined_in l.object l.dropped n || defines_name l.fn.names n);
  woken : AreWokenSince l.places (requests_name l.fn.names) l.names l.awake;
  numbers : AreNumbersOf l.names.names l.object l.numbers;
  count : length l.numbers ≡ l.j;
  kept : KeepNumbers l.fn.names.names l.names.names;
  stays : (i q : ℕ) → is_awake l.fn.awake i q ≡ true → is_awake l.awake i q ≡ true;
}
