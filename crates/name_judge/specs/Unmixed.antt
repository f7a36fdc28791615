-- Names for where the sections of an output name begin and end, by what defines names and what the image has.
use Rattle.std.specs.Prelude.{◌≡◌, ℕ, List, None, IfSome}
use Rattle.elf_model.specs.Link.LinkerNames.{named_output}
use Rattle.elf_model.specs.Link.Loading.{LoadedObject}
use Rattle.elf_model.specs.Link.Meaning.{object_meaning}
use Rattle.elf_model.specs.Link.Pieces.{Piece}
use Rattle.elf_model.specs.declared.bound.Bound.{Bound}
use Rattle.elf_model.specs.declared.bound.Bound.TheVariants.{OutputEnd, OutputStart}
use Rattle.check_link.specs.Outputs.{AreOne}
use Rattle.judge_model.specs.Certificates.{NameRow}
use Rattle.link_fields.specs.Parts.{bound_of}

-- the sections of which a bound speaks are of one run
abbrev pub IsOneBound : List Piece → List ℕ → Bound → Type 0
IsOneBound ps name OutputStart = AreOne ps (named_output name)
IsOneBound ps name OutputEnd = AreOne ps (named_output name)
IsOneBound ps name _ = Unit {0}

-- and so are those of the bound of a row's name, unless objects define it
pub record IsRowUnmixed (os : List LoadedObject) (ps : List Piece) (row : NameRow) : Type 0 where
  pub unmixed : object_meaning os row.name ≡ None → IfSome (bound_of ps row.name) (IsOneBound ps row.name)
