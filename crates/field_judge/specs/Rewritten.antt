-- Code in place of an instruction, given what its relocation's symbol means.
use Rattle.std.specs.Prelude.{◌≡◌, ◌⊎◌, ℕ, ℤ, ◌+◌, ◌-◌, ◌<◌, ◌==◌, Bool, true, List, [], ◌∷◌, Option, None, Some, IsSomeAnd, Any, Contains, find, length}
use Rattle.elf_model.specs.declared.thing.Thing.{Thing}
use Rattle.judge_model.specs.Fields.{foreign_kinds}
use Rattle.judge_model.specs.Memory.{Holds}
use Rattle.judge_model.specs.Rewrites as rewrites
use Rattle.judge_model.specs.Rewrites.{front_bytes, rewrite_of, rewritings}
use Rattle.judge_model.specs.declared.rewriting.Rewriting.{Rewriting}
use Rattle.field_judge.specs.Given.{Given, IsRightIn}
use Rattle.field_judge.specs.Kinds.{kind_view}
use Rattle.field_judge.specs.declared.instructions.Instruction.{Instruction}
use Rattle.field_judge.specs.declared.rewrites.Front.{Front}
use Rattle.field_judge.specs.declared.rewrites.Front.TheVariants.{Opcode, Whole}
use Rattle.field_judge.specs.declared.rewrites.Put.{Put}

-- the code's instructions, fronts and fields as the definitions see them
abbrev pub rex_view : Option ℕ → List ℕ
rex_view None = []
rex_view (Some rex) = rex ∷ []

abbrev pub instruction_view : Instruction → rewrites.Instruction
instruction_view i = record { rex = rex_view i.rex; opcode = i.opcode; modrm = i.modrm }

abbrev pub front_view : Front → List ℕ
front_view (Whole i) = front_bytes (instruction_view i)
front_view (Opcode opcode) = opcode ∷ []

abbrev pub put_view : Put → rewrites.Put
put_view p = record { kind = kind_view p.kind; addend = p.addend }

-- what is given of a field that begins so many bytes earlier, with an addend
abbrev pub rewritten_given : Given → ℕ → ℤ → Given
rewritten_given g earlier addend = record {
  value = g.value;
  addend = addend;
  at = g.at;
  offset = g.offset - earlier;
  size = g.size;
  got = g.got;
  thread = g.thread;
}

-- a row's field is right
abbrev pub IsRowFieldRight : List ℕ → List Thing → Given → rewrites.Instruction → Rewriting → Type 0
IsRowFieldRight image things g i w =
    let put = (rewrite_of w).put i in IsRightIn image things (rewritten_given g (length (rewrite_of w).behind) put.addend) put.kind

-- memory has what a row says in place of an instruction, of a relocation of a type, which tells so many bytes in front of its field
pub record IsRewrittenIn (image : List ℕ) (things : List Thing) (g : Given) (type front : ℕ) (i : rewrites.Instruction) (w : Rewriting) : Type 0 where
  pub type_ : Contains (rewrite_of w).types type
  pub instruction : (rewrite_of w).is_of i ≡ true
  pub front_is : Holds image (g.at + (g.offset - front)) ((rewrite_of w).front i)
  pub field : IsRowFieldRight image things g i w
  pub behind : Holds image (g.at + (g.offset - length (rewrite_of w).behind) + 4) (rewrite_of w).behind

-- the field of a relocation of a type is the one of its kind
abbrev pub IsOfKind : List ℕ → List Thing → Given → ℕ → Type 0
IsOfKind image things g type = IsSomeAnd (find (λ k. k.number == type) foreign_kinds) (IsRightIn image things g)

-- so it is, behind the instruction, where the type tells one
pub record IsUnchangedIn (image : List ℕ) (things : List Thing) (g : Given) (type front : ℕ) (i : rewrites.Instruction) : Type 0 where
  pub front_is : 0 < front → Holds image (g.at + (g.offset - front)) (front_bytes i)
  pub field : IsOfKind image things g type

-- or it is in code, and memory has what some row says
pub record IsRewrittenSome (image : List ℕ) (things : List Thing) (g : Given) (type front : ℕ) (code : Bool) (i : rewrites.Instruction) : Type 0 where
  pub told : 0 < front
  pub code_is : code ≡ true
  pub some : Any (IsRewrittenIn image things g type front i) rewritings

abbrev pub IsPlaceRight : List ℕ → List Thing → Given → ℕ → ℕ → Bool → rewrites.Instruction → Type 0
IsPlaceRight image things g type front code i = IsUnchangedIn image things g type front i ⊎ IsRewrittenSome image things g type front code i
