-- The tables of an image are right, part by part.
use Rattle.std.proofs.Common.{◌≡◌, ◌∙◌, ℕ, zero, suc, ◌+◌, ◌<◌, ◌==◌, ◌||◌, Bool, true, false, cond, List, length, get_or, drop, refl, sym, ap, subst, arith}
use Rattle.std.specs.Prelude.{◌↔◌, All, None, Option, Some, find, unwrap_or}
use Rattle.std.specs.List.{list_any, prefix_len}
use Rattle.std.proofs.lemmas.Bool.{eqb-true}
use Rattle.std.proofs.lemmas.List.Elements.{All-contains}
use Rattle.elf_model.proofs.Finding.{find-found}
use Rattle.elf_model.proofs.Rests.{rest_at}
use Rattle.elf_model.specs.Inputs.ObjectFile.{LiesInside, has_no_bytes, null_section, symbol_table}
use Rattle.elf_model.specs.declared.records.SectionHeader.{SectionHeader}
use Rattle.elf_model.specs.declared.records.Symbol.{Symbol}
use Rattle.check_load.specs.NameNumbers.{is_among}
use Rattle.judge_model.specs.Links.{ForeignLink}
use Rattle.judge_model.specs.Tables.{AreThere, IsSectionTrue, IsTableRight, image_sections, image_symbols, is_local_entry, strings_of}
use Rattle.link_fields.specs.Parts.{Parts, parts_of}
use Rattle.symbol_judge.specs.Names.{is_name_of}
use Rattle.symbol_judge.specs.Tables.{AreLocalsFirst, AreNamedRight}
use Rattle.symbol_judge.specs.There.{HasNames}
use Rattle.symbol_judge.proofs.ThereLaws.{there_iff}

-- The first of entries that are LOCAL, counted from a number on.
pub first_more :
    (es : List Symbol) (i : ℕ) (d : Symbol) (total : ℕ) → i < length es → is_local_entry (get_or es i d) ≡ true →
    i + prefix_len is_local_entry (drop i es) ≡ total → i + 1 + prefix_len is_local_entry (drop (i + 1) es) ≡ total
first_more es i d total within local so_far =
    let here =
    ap (λ (xs : List Symbol). prefix_len is_local_entry xs) (rest_at es i d within)
    ∙ ap (λ (b : Bool). cond b (1 + prefix_len is_local_entry (drop (i + 1) es)) 0) local in
    omega (arith, here, so_far)

pub first_stop :
    (es : List Symbol) (i : ℕ) (d : Symbol) (total : ℕ) → i < length es → is_local_entry (get_or es i d) ≡ false →
    i + prefix_len is_local_entry (drop i es) ≡ total → i ≡ total
first_stop es i d total within other so_far =
    let here =
    ap (λ (xs : List Symbol). prefix_len is_local_entry xs) (rest_at es i d within)
    ∙ ap (λ (b : Bool). cond b (1 + prefix_len is_local_entry (drop (i + 1) es)) 0) other in
    omega (arith, here, so_far)

-- the symbol table lies in the file, where each section does that has bytes there
pub table_lies : (image : List ℕ) (hs : List SectionHeader) → All (IsSectionTrue image) hs → LiesInside (length image) (symbol_table hs)
table_lies image hs all = by (find (λ s. s.sh_type == 2) hs) refl
  where
    by : (o : Option SectionHeader) → find (λ s. s.sh_type == 2) hs ≡ o → LiesInside (length image) (unwrap_or o null_section)
    by None none = omega arith
    by (Some h) is =
        let f = find-found (λ (s : SectionHeader). s.sh_type == 2) hs h is in
        (All-contains (IsSectionTrue image) hs h all f.there).1 (bytes (eqb-true h.sh_type 2 f.passes))
      where
        bytes : h.sh_type ≡ 2 → has_no_bytes h ≡ false
        bytes e = ap (λ (t : ℕ). t == 0 || t == 8) e

-- the names that a table has to have are there, unless words strip
pub names_iff :
    (l : ForeignLink) (p : Parts) (strips : Bool) (names : List (List ℕ)) → parts_of l ≡ p → l.plan.strips ≡ strips →
    ((n : List ℕ) → is_among names n ≡ list_any (is_name_of (strings_of l.image (image_sections l.image)) n) (image_symbols l.image)) →
    HasNames strips p names ↔ (l.plan.strips ≡ false → AreThere l)
names_iff l p strips names parts words among =
    let law = there_iff l names among in
    subst (λ (q : Parts). HasNames strips q names ↔ (l.plan.strips ≡ false → AreThere l)) parts (
      λ h none. law.0 (h.names_are (sym words ∙ none)),
      λ h. record { names_are = λ none. law.1 (h (words ∙ none)) },
    )

-- a table with LOCAL entries first, of which the others are right
module _ (l : ForeignLink) (count : ℕ) (info : (symbol_table (image_sections l.image)).sh_info ≡ count) where
  pub table_of : AreLocalsFirst count (image_symbols l.image) → AreNamedRight l → IsTableRight l
  table_of f n = record { entries_are = n.entries_are; there = n.there; local_first = info ∙ f.first; local_all = info ∙ f.all }

  pub first_of : IsTableRight l → AreLocalsFirst count (image_symbols l.image)
  first_of t = record { first = sym info ∙ t.local_first; all = sym info ∙ t.local_all }

pub named_of : (l : ForeignLink) → IsTableRight l → AreNamedRight l
named_of l t = record { entries_are = t.entries_are; there = t.there }

-- section headers that are true of the image are true of the link's
pub sections_of :
    (l : ForeignLink) (image : List ℕ) (hs : List SectionHeader) → l.image ≡ image → image_sections l.image ≡ hs → All (IsSectionTrue image) hs →
    All (IsSectionTrue l.image) (image_sections l.image)
sections_of l image hs image_is sections all =
    subst (λ (gs : List SectionHeader). All (IsSectionTrue l.image) gs) (sym sections)
    (subst (λ (bytes : List ℕ). All (IsSectionTrue bytes) hs) (sym image_is) all)

pub positive : (k : ℕ) → (k ≡ 0 → ⊥) → 0 < k
positive zero none = absurd (none refl)
positive (suc k) none = omega arith
