-- What is found of a section, by its bytes.
use Rattle.std.proofs.Common.{◌≡◌, ℕ, List, Option, None, Some, subst, sym}
use Rattle.std.specs.Prelude.{IfSome, SomeIff, option_map}
use Rattle.std.proofs.lemmas.Option.{none-some, same_Some}
use Rattle.elf_model.specs.Link.Pieces.{Piece}

-- of a section that is found with some bytes
pub if_found :
    (P : List ℕ → Type 0) (o : Option Piece) (b : List ℕ) → Some b ≡ option_map (λ p. p.bytes) o →
    (P b → IfSome o (λ p. P p.bytes)) × (IfSome o (λ p. P p.bytes) → P b)
if_found P None b e = absurd (none-some b (sym e))
if_found P (Some p) b e =
    let same = same_Some b p.bytes e in
    (λ h. subst P same h, λ h. subst P (sym same) h)

-- an answer that is there exactly where something is so
pub some_iff : {X : Type 0} (P : Type 0) (v : X) (o : Option X) (x : X) → o ≡ Some x → SomeIff o P v → P × (x ≡ v)
some_iff {X} P v o x e h = subst (λ (q : Option X). SomeIff q P v) e h

pub none_iff : {X : Type 0} (P : Type 0) (v : X) (o : Option X) → o ≡ None → SomeIff o P v → P → ⊥
none_iff {X} P v o e h = subst (λ (q : Option X). SomeIff q P v) e h
