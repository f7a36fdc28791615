-- Fields that come one after the other, where each ended before the next one began, are apart.
use Rattle.std.proofs.Common.{◌≡◌, inl, inr, ℕ, zero, suc, ◌+◌, ◌<◌, ◌≤◌, ◌==◌, ◌&&◌, ◌||◌, nat_lt, Bool, true, false, List, [], ◌∷◌, ◌++◌, get_or, map, refl, sym, ap, ◌∙◌, arith, subst}
use Rattle.std.specs.Prelude.{◌↔◌, AllPairs, All, IsTrue, nat_le}
use Rattle.std.proofs.lemmas.Bool.{and_parts, eqb-true}
use Rattle.std.proofs.lemmas.Bool.Decides.{nat_tests}
use Rattle.std.proofs.lemmas.List.Sums.{fold-append}
use Rattle.elf_model.proofs.RangeOrder.{rise_apart}
use Rattle.elf_model.specs.Link.Relocation.{Relocation}
use Rattle.relocate.specs.Fields.{AreApart, IsBefore, IsSome, Rise, field_of, is_before, run_after, run_with}
use Rattle.relocate.specs.declared.field_run.FieldRun.{FieldRun}
use Rattle.relocate.specs.declared.fields.Field.{Field}

-- what the comparison tells
before_is : (f g : Field) → is_before f g ≡ true → IsBefore f g
before_is f g e = by (nat_lt f.section g.section) refl e
  where
    by : (b : Bool) → nat_lt f.section g.section ≡ b → (b || (f.section == g.section && nat_le f.end g.start)) ≡ true → IsBefore f g
    by true less e = let low : f.section < g.section = grind (arith, nat_tests) in inl low
    by false more e =
        let both = and_parts (f.section == g.section) (nat_le f.end g.start) e in
        let low : f.end ≤ g.start = grind (arith, nat_tests) in
        inr (eqb-true f.section g.section both.0, low)

is_told : (f g : Field) → IsBefore f g → is_before f g ≡ true
is_told f g (inl less) = grind (arith, nat_tests)
is_told f g (inr rest) = grind (arith, nat_tests)

pub before_told : (b : Bool) (f g : Field) → b ≡ is_before f g → IsTrue b ↔ IsBefore f g
before_told b f g is = (λ t. before_is f g (sym is ∙ t), λ h. is ∙ is_told f g h)

-- a run goes on with relocations behind relocations
abbrev step : FieldRun → Relocation → FieldRun
step run r = run_with run (field_of r)

pub run_taken :
    (old new all : FieldRun) (here rest left : List Relocation) → new ≡ run_after old here → left ≡ here ++ rest →
    run_after old left ≡ all → run_after new rest ≡ all
run_taken old new all here rest left grown is whole =
    ap (λ (x : FieldRun). run_after x rest) grown ∙ (sym (fold-append step old here rest) ∙ (ap (run_after old) (sym is) ∙ whole))

-- where it rises in the end, it did before, and its fields do
rose : (run : FieldRun) (rs : List Relocation) → (run_after run rs).rises ≡ true → run.rises ≡ true
rose run [] up = up
rose run (r ∷ rs) up = (and_parts run.rises (is_before run.last (field_of r)) (rose (step run r) rs up)).0

rise_with : (x y : Field) (ys : List Field) → IsBefore x y → Rise (y ∷ ys) → Rise (x ∷ y ∷ ys)
rise_with x y ys first rest zero d low = first
rise_with x y ys first rest (suc k) d low =
    let e : suc (k + 1) ≡ suc k + 1 = omega arith in
    subst (λ (n : ℕ). IsBefore (get_or (y ∷ ys) k d) (get_or (x ∷ y ∷ ys) n d)) e (rest k d (omega (arith, low)))

rise_behind : (run : FieldRun) (rs : List Relocation) → (run_after run rs).rises ≡ true → Rise (run.last ∷ map field_of rs)
rise_behind run [] up = λ k d low. absurd (omega (arith, low))
rise_behind run (r ∷ rs) up =
    rise_with run.last (field_of r) (map field_of rs)
    (before_is run.last (field_of r) (and_parts run.rises (is_before run.last (field_of r)) (rose (step run r) rs up)).1)
    (rise_behind (step run r) rs up)

rise_on : (x : Field) (xs : List Field) → Rise (x ∷ xs) → Rise xs
rise_on x xs up k d low =
    let e : suc k + 1 ≡ suc (k + 1) = omega arith in
    subst (λ (n : ℕ). IsBefore (get_or xs k d) (get_or (x ∷ xs) n d)) e (up (suc k) d (omega (arith, low)))

pub run_apart : (run : FieldRun) (rs : List Relocation) → All IsSome (map field_of rs) → (run_after run rs).rises ≡ true → AllPairs AreApart (map field_of rs)
run_apart run rs some up =
    rise_apart (λ (f : Field). f.section) (λ f. f.start) (λ f. f.end) (map field_of rs) some (rise_on run.last (map field_of rs) (rise_behind run rs up))
