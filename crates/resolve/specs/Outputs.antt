-- The output names of kept sections as a set, and what names of the linker's stand for where there are these.
use Rattle.std.specs.Prelude.{◌≡◌, ℕ, cond, List, Option, None}
use Rattle.std.specs.BTreeSet.{BTreeSet}
use Rattle.std.specs.Borrow.{Bor}
use Rattle.std.specs.Option.{option_or}
use Rattle.elf_model.specs.Link.LinkerNames.{ArrayName, fixed_bound, named_output, output_bound}
use Rattle.elf_model.specs.Link.Loading.{LoadedObject}
use Rattle.elf_model.specs.Link.Pieces.{has_output}
use Rattle.elf_model.specs.Link.UsedNames.{is_among}
use Rattle.elf_model.specs.declared.bound.Bound.{Bound}

-- what an array's name stands for, and its output name
abbrev pub array_facts : ArrayName → Bound × List ℕ
array_facts a = (a.bound, a.output)

abbrev pub array_view : Bound × Bor (List ℕ) → Bound × List ℕ
array_view a = (a.0, a.1.now)

-- a set has the output names of the kept sections alone
pub record AreOutputs (objects : List LoadedObject) (names : BTreeSet (Bor (List ℕ))) : Type 0 where
  pub each : (name : List ℕ) → is_among names name ≡ has_output objects name

-- what a name stands for where there are kept sections of the output names of a set
abbrev pub bound_among : BTreeSet (Bor (List ℕ)) → List ℕ → Option Bound
bound_among names name = option_or (fixed_bound name) (cond (is_among names (named_output name)) (output_bound name) None)
