-- The entry of a line's definition, and the entries and names that are left to compare.
use Rattle.std.proofs.Common.{◌≡◌, ℕ, ◌+◌, ◌<◌, ◌^◌, ◌%◌, Bool, true, false, cond, List, [], ◌∷◌, ◌++◌, Option, Some, None, length, get_or, refl, sym, ◌∙◌, ap, append_assoc, arith, subst}
use Rattle.std.specs.Prelude.{All, IfNone, IfSome, filter, option_map}
use Rattle.std.specs.List.{cons_option, flat_map}
use Rattle.std.proofs.lemmas.List.{length-append}
use Rattle.std.proofs.lemmas.Option.{none-some, same_Some}
use Rattle.std.proofs.lemmas.Slice.Eq.{bytes_eq-Decides}
use Rattle.elf_model.proofs.RisingNames.{all_found, has, rises_from_ascends, rises_unique}
use Rattle.elf_model.specs.Link.Listing.{linker_line, listed}
use Rattle.elf_model.specs.Link.LinkerNames.{bound_of}
use Rattle.elf_model.specs.Link.Loading.{LoadedObject}
use Rattle.elf_model.specs.Image.MapRecord.{SymbolRow}
use Rattle.elf_model.specs.Image.MapText.{Ascends, SymbolBefore}
use Rattle.elf_model.specs.Link.Meaning.{Linker, Meaning, meaning_name, meaning_value, object_meaning}
use Rattle.elf_model.specs.Link.Placement.{Where}
use Rattle.elf_model.specs.Inputs.Records.{symbol_bytes}
use Rattle.elf_model.specs.Image.RightLink.{HasLine, symbol_row_of}
use Rattle.elf_model.specs.Image.SymbolTable.{ended, entries_from, entry_of, has_entry, line_meanings, tabled}
use Rattle.elf_model.specs.declared.bound.Bound.{Bound}
use Rattle.elf_model.specs.declared.records.Symbol as entry
use Rattle.check_tables.specs.Listed.{IsLine}
use Rattle.check_tables.specs.Tabled.{AreLeft, IsTabled, ended_names, entry_at, entry_if_tabled}
use Rattle.check_tables.proofs.SymbolLines.{means_linker, means_object}

-- where each name has its line, each row is that of what its name means
pub each_line :
    (objects : List LoadedObject) (w : Where) (rows : List SymbolRow) → Ascends SymbolBefore rows →
    ((n : List ℕ) → HasLine rows objects w n) → All (IsLine objects w) rows
each_line objects w rows up have k d within =
    let r = get_or rows k d in
    let few = rises_unique rows r.name (rises_from_ascends rows up) in
    let own = all_found (has r.name) rows few k d within ((bytes_eq-Decides r.name r.name).1 refl) in
    sym (have r.name) ∙ own

module _ (objects : List LoadedObject) where
  -- the definitions of rows one after the other
  pub tabled_more : (row : SymbolRow) (rows : List SymbolRow) → tabled objects (row ∷ rows) ≡ tabled objects (row ∷ []) ++ tabled objects rows
  tabled_more row rows = by (listed objects row.name)
    where
      with : (m : Meaning) (b : Bool) → has_entry objects m ≡ b →
          filter (has_entry objects) (m ∷ line_meanings objects rows) ≡ filter (has_entry objects) (m ∷ []) ++ filter (has_entry objects) (line_meanings objects rows)
      with m true e = rw e refl
      with m false e = rw e refl

      by : (o : Option Meaning) →
          filter (has_entry objects) (cons_option o (line_meanings objects rows))
          ≡ filter (has_entry objects) (cons_option o []) ++ filter (has_entry objects) (line_meanings objects rows)
      by None = refl
      by (Some m) = with m (has_entry objects m) refl

module _ (objects : List LoadedObject) (w : Where) where
  -- the definition of a row is the one of its name
  module _ (row : SymbolRow) (m : Meaning) (is : listed objects row.name ≡ Some m) (line : IsLine objects w row) where
    row_is : symbol_row_of w m ≡ row
    row_is = same_Some (symbol_row_of w m) row (sym (ap (option_map (symbol_row_of w)) is) ∙ line)

    lone : tabled objects (row ∷ []) ≡ filter (has_entry objects) (m ∷ [])
    lone = ap (λ (o : Option Meaning). filter (has_entry objects) (cons_option o [])) is

    pub untabled : has_entry objects m ≡ false → tabled objects (row ∷ []) ≡ []
    untabled e = lone ∙ ap (λ (b : Bool). cond b (m ∷ []) []) e

    pub is_tabled : (name_at address : ℕ) → has_entry objects m ≡ true → address ≡ row.address → address < 2 ^ 64 → IsTabled objects w row name_at (entry_at name_at address m)
    is_tabled name_at address e at fits = record {
      meaning = m;
      tabled_is = lone ∙ ap (λ (b : Bool). cond b (m ∷ []) []) e;
      named = ap (λ (r : SymbolRow). r.name) row_is;
      entry_is =
          let value : meaning_value w m ≡ address = ap (λ (r : SymbolRow). r.address) row_is ∙ sym at in
          let small : address ≡ meaning_value w m % 2 ^ 64 = omega (arith, value, fits) in
          λ i. record (entry_at name_at address m) { st_value = small i };
    }

  -- a name that objects define
  pub object_none :
      (row : SymbolRow) (m : Meaning) (name_at address : ℕ) (o : Option entry.Symbol) → IsLine objects w row → object_meaning objects row.name ≡ Some m →
      o ≡ entry_if_tabled objects name_at address m → IfNone o (tabled objects (row ∷ []) ≡ [])
  object_none row m name_at address o line means is = by (has_entry objects m) refl o is
    where
      by : (b : Bool) → has_entry objects m ≡ b → (p : Option entry.Symbol) → p ≡ entry_if_tabled objects name_at address m → IfNone p (tabled objects (row ∷ []) ≡ [])
      by b e (Some s) q = tt
      by false e None q = untabled row m (means_object objects row.name m means) line e
      by true e None q = absurd (none-some (entry_at name_at address m) (q ∙ ap (λ (c : Bool). cond c (Some (entry_at name_at address m)) None) e))

  pub object_some :
      (row : SymbolRow) (m : Meaning) (name_at address : ℕ) (o : Option entry.Symbol) → IsLine objects w row → object_meaning objects row.name ≡ Some m →
      address ≡ row.address → address < 2 ^ 64 → o ≡ entry_if_tabled objects name_at address m → IfSome o (IsTabled objects w row name_at)
  object_some row m name_at address o line means at fits is = by (has_entry objects m) refl o is
    where
      by : (b : Bool) → has_entry objects m ≡ b → (p : Option entry.Symbol) → p ≡ entry_if_tabled objects name_at address m → IfSome p (IsTabled objects w row name_at)
      by b e None q = tt
      by true e (Some s) q =
          let same = same_Some s (entry_at name_at address m) (q ∙ ap (λ (c : Bool). cond c (Some (entry_at name_at address m)) None) e) in
          subst (IsTabled objects w row name_at) (sym same)
          (is_tabled row m (means_object objects row.name m means) line name_at address e at fits)
      by false e (Some s) q = absurd (none-some s (sym (q ∙ ap (λ (c : Bool). cond c (Some (entry_at name_at address m)) None) e)))

  -- a name of the linker's own
  pub linker_some :
      (row : SymbolRow) (name_at address : ℕ) (s : entry.Symbol) → IsLine objects w row → object_meaning objects row.name ≡ None →
      address ≡ row.address → address < 2 ^ 64 → ((name : List ℕ) (bound : Bound) → s ≡ entry_at name_at address (Linker name bound)) →
      IsTabled objects w row name_at s
  linker_some row name_at address s line means at fits is = by_line (listed objects row.name) refl (means_linker objects row.name means)
    where
      by_bound : (m : Meaning) → listed objects row.name ≡ Some m → (b : Bool) (o : Option Bound) → Some m ≡ cond b (option_map (Linker row.name) o) None → IsTabled objects w row name_at s
      by_bound m e true (Some bound) q =
          let same : m ≡ Linker row.name bound = same_Some m (Linker row.name bound) q in
          subst (IsTabled objects w row name_at) (sym (is row.name bound))
          (is_tabled row (Linker row.name bound) (e ∙ q) line name_at address refl at fits)
      by_bound m e true None q = absurd (none-some m (sym q))
      by_bound m e false o q = absurd (none-some m (sym q))

      by_line : (o : Option Meaning) → listed objects row.name ≡ o → listed objects row.name ≡ linker_line objects row.name → IsTabled objects w row name_at s
      by_line None e q = absurd (none-some row (sym (ap (option_map (symbol_row_of w)) e) ∙ line))
      by_line (Some m) e q = by_bound m e _ (bound_of objects row.name) (sym e ∙ q)

-- what is left, without the first definition
module _ (w : Where) (entries names : List ℕ) (name_at : ℕ) (m : Meaning) (ms : List Meaning) (others : List ℕ) where
  pub first_entry :
      AreLeft w entries names name_at (m ∷ ms) others →
      entries ≡ symbol_bytes (entry_of w name_at m) ++ flat_map symbol_bytes (entries_from w (name_at + (length (meaning_name m) + 1)) ms)
  first_entry a = a.entries_are

  pub first_name :
      AreLeft w entries names name_at (m ∷ ms) others → names ≡ ended (meaning_name m) ++ (ended_names ms ++ others)
  first_name a = a.names_are ∙ append_assoc (ended (meaning_name m)) (ended_names ms) others

  more_names : length (ended_names (m ∷ ms)) ≡ (length (meaning_name m) + 1) + length (ended_names ms)
  more_names =
      let a = length-append (ended (meaning_name m)) (ended_names ms) in
      let b = length-append (meaning_name m) (0 ∷ []) in omega (arith, a, b)

  pub first_fits : AreLeft w entries names name_at (m ∷ ms) others → name_at + (length (meaning_name m) + 1) < 2 ^ 32
  first_fits a = let n = more_names in let f = a.fit in omega (arith, n, f)

  pub without_first :
      (es ns : List ℕ) (next : ℕ) → next ≡ name_at + (length (meaning_name m) + 1) →
      (entries ≡ symbol_bytes (entry_of w name_at m) ++ flat_map symbol_bytes (entries_from w (name_at + (length (meaning_name m) + 1)) ms) → es ≡ flat_map symbol_bytes (entries_from w (name_at + (length (meaning_name m) + 1)) ms)) →
      (names ≡ ended (meaning_name m) ++ (ended_names ms ++ others) → ns ≡ ended_names ms ++ others) →
      AreLeft w entries names name_at (m ∷ ms) others → AreLeft w es ns next ms others
  without_first es ns next is e n a = record {
    entries_are = e (first_entry a) ∙ ap (λ (k : ℕ). flat_map symbol_bytes (entries_from w k ms)) (sym is);
    names_are = n (first_name a);
    fit = let l = more_names in let f = a.fit in omega (arith, l, f, is);
  }

  pub with_first :
      (es ns : List ℕ) (next : ℕ) → next ≡ name_at + (length (meaning_name m) + 1) →
      (es ≡ flat_map symbol_bytes (entries_from w (name_at + (length (meaning_name m) + 1)) ms) → entries ≡ symbol_bytes (entry_of w name_at m) ++ flat_map symbol_bytes (entries_from w (name_at + (length (meaning_name m) + 1)) ms)) →
      (ns ≡ ended_names ms ++ others → names ≡ ended (meaning_name m) ++ (ended_names ms ++ others)) →
      AreLeft w es ns next ms others → AreLeft w entries names name_at (m ∷ ms) others
  with_first es ns next is e n a = record {
    entries_are = e (a.entries_are ∙ ap (λ (k : ℕ). flat_map symbol_bytes (entries_from w k ms)) is);
    names_are = n a.names_are ∙ sym (append_assoc (ended (meaning_name m)) (ended_names ms) others);
    fit = let l = more_names in let f = a.fit in omega (arith, l, f, is);
  }
