-- What is left of a symbol table after the definitions of lines.
use Rattle.std.proofs.Common.{◌≡◌, ℕ, ◌+◌, ◌<◌, ◌^◌, List, [], ◌∷◌, ◌++◌, Option, Some, None, length, refl, sym, ◌∙◌, ap, arith, subst}
use Rattle.std.specs.Prelude.{IfSome}
use Rattle.std.proofs.lemmas.List.{append_assoc, length-append}
use Rattle.elf_model.proofs.Rests.{Left}
use Rattle.elf_model.specs.Link.Loading.{LoadedObject}
use Rattle.elf_model.specs.Image.MapRecord.{SymbolRow}
use Rattle.elf_model.specs.Link.Meaning.{Meaning, meaning_name}
use Rattle.elf_model.specs.Link.Placement.{Where}
use Rattle.elf_model.specs.Image.SymbolTable.{ended, name_section, tabled}
use Rattle.check_tables.specs.Tabled.{AreLeft, ended_names}
use Rattle.check_tables.proofs.TableEntries.{tabled_more}

-- the bytes of the name of one definition
pub one_name : (ds : List Meaning) (m : Meaning) (name : List ℕ) → ds ≡ m ∷ [] → meaning_name m ≡ name → length (ended_names ds) ≡ length name + 1
one_name ds m name e n =
    let a = ap (λ (xs : List Meaning). length (ended_names xs)) e in
    let b = length-append (ended (meaning_name m)) [] in
    let c = length-append (meaning_name m) (0 ∷ []) in
    let d = ap length n in omega (arith, a, b, c, d)

names_append : (ds ms : List Meaning) → ended_names (ds ++ ms) ≡ ended_names ds ++ ended_names ms
names_append [] ms = refl
names_append (d ∷ ds) ms =
    ap (λ (xs : List ℕ). ended (meaning_name d) ++ xs) (names_append ds ms) ∙ sym (append_assoc (ended (meaning_name d)) (ended_names ds) (ended_names ms))

module _ (objects : List LoadedObject) (lines : List SymbolRow) (line : SymbolRow) (rest : List SymbolRow) (e : lines ≡ line ∷ rest) where
  abbrev pub here : List Meaning
  here = tabled objects (line ∷ [])

  abbrev pub later : List Meaning
  later = tabled objects rest

  pub lines_split : tabled objects lines ≡ here ++ later
  lines_split = ap (tabled objects) e ∙ tabled_more objects line rest

  pub names_split : length (ended_names (tabled objects lines)) ≡ length (ended_names here) + length (ended_names later)
  names_split =
      ap (λ (ms : List Meaning). length (ended_names ms)) lines_split
      ∙ (ap length (names_append here later) ∙ length-append (ended_names here) (ended_names later))

-- a claim on what is left, with the definitions that are next, as one on what is left after them
pub left_step :
    (Q P : Type 0) (w : Where) (entries names : List ℕ) (name_at : ℕ) (ms ds es : List Meaning) (others : List ℕ) →
    Left Q (AreLeft w entries names name_at ms others) → ms ≡ ds ++ es → Left (AreLeft w entries names name_at (ds ++ es) others) P →
    Left Q P
left_step Q P w entries names name_at ms ds es others q e p = (
  λ a. p.0 (subst (λ (xs : List Meaning). AreLeft w entries names name_at xs others) e (q.0 a)),
  λ b. q.1 (subst (λ (xs : List Meaning). AreLeft w entries names name_at xs others) (sym e) (p.1 b)),
)

-- and after the last, where no entries are left or some are
module _
    (Q : Type 0) (w : Where) (objects : List LoadedObject) (lines : List SymbolRow) (past : lines ≡ [])
    (entries names : List ℕ) (name_at : ℕ) (others : List ℕ) (q : Left Q (AreLeft w entries names name_at (tabled objects lines) others))
  where
    none_after : tabled objects lines ≡ []
    none_after = ap (tabled objects) past

    pub left_end : entries ≡ [] → name_at < 2 ^ 32 → Left Q (names ≡ others)
    left_end none fits = (
      λ a. (subst (λ (xs : List Meaning). AreLeft w entries names name_at xs others) none_after (q.0 a)).names_are,
      λ e. q.1
          (subst (λ (xs : List Meaning). AreLeft w entries names name_at xs others) (sym none_after)
          (record { entries_are = none; names_are = e; fit = omega (arith, fits) })),
    )

    pub left_over : (entries ≡ [] → ⊥) → Q → ⊥
    left_over some a = some (subst (λ (xs : List Meaning). AreLeft w entries names name_at xs others) none_after (q.0 a)).entries_are

pub names_end : (objects : List LoadedObject) (lines : List SymbolRow) → lines ≡ [] → length (ended_names (tabled objects lines)) ≡ 0
names_end objects lines past = ap (λ (ys : List SymbolRow). length (ended_names (tabled objects ys))) past

-- the offset after the last name, from the first NUL on
pub end_of_names :
    {X : Type 0} (o : Option X) (at : X → ℕ) (first : ℕ) (ms : List Meaning) → first ≡ 1 →
    IfSome o (λ t. at t ≡ first + length (ended_names ms)) → IfSome o (λ t. at t ≡ length (name_section ms))
end_of_names None at first ms one h = tt
end_of_names (Some t) at first ms one h = omega (arith, h, one)
