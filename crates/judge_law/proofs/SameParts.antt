-- The parts of a link that the profile's check accepts are those that a judge sees with the map's lines as the certificate.
use Rattle.std.proofs.Common.{◌∙◌, ap, inl, inr, refl, subst, sym}
use Rattle.std.specs.Prelude.{◌≡◌, ◌⊎◌, ◌++◌, ◌||◌, ◌&&◌, ◌==◌, Bool, true, false, List, [], ◌∷◌, Option, None, Some, All, Contains, cond, find, filter, is_some, map, option_map}
use Rattle.std.specs.List.{list_any}
use Rattle.std.proofs.lemmas.Bool.{and_from, eq-eqb, false≢true}
use Rattle.std.proofs.lemmas.Slice.Eq.{bytes_eq-Decides}
use Rattle.elf_model.proofs.Finding.{filter-all}
use Rattle.elf_model.proofs.Listed.{All-from_contains, Contains-cons_cases, Contains-from_map, Contains-map, Contains-nil, Image}
use Rattle.elf_model.specs.Image.MapRecord.{CommonRow, PlaceRow}
use Rattle.elf_model.specs.Image.RightLink as right
use Rattle.elf_model.specs.Image.RightLink.{HasCommonLine, Holds, SectionFacts, Subject, facts_of_block, facts_of_common, facts_of_piece, facts_of_row}
use Rattle.elf_model.specs.Link.Commons.{Block, block_named, blocks, is_block_of}
use Rattle.elf_model.specs.Link.Loading.{LoadedObject}
use Rattle.elf_model.specs.Link.Pieces.{Piece, kept_sections}
use Rattle.elf_model.specs.Link.Placement.{Placed, is_common_row_of, placed_blocks, placed_by}
use Rattle.elf_model.specs.Link.Relocation.{relocations}
use Rattle.elf_model.specs.declared.verdict.Clause.{Clause}
use Rattle.elf_model.specs.declared.verdict.Clause.TheVariants.{C2, C3}
use Rattle.judge_model.specs.Certificates.{has_place}
use Rattle.judge_model.specs.Links.{blocks_of, has_common_line, is_in_image, is_in_image_too, is_plain, objects_of, pieces_of, placed_of, plain_pieces, relocations_of, sections_of}
use Rattle.judge_model.specs.Loaded.{objects_in_order}
use Rattle.judge_law.proofs.InOrder.{loaded_in_order}
use Rattle.judge_law.specs.Conservative.{foreign_of}

-- the objects of the map's lines, in their order, are those that the rules load
abbrev pub AreInOrder : Subject → Type 0
AreInOrder s = objects_of (foreign_of s) ≡ right.objects_of s

pub in_order : (s : Subject) → ((c : Clause) → Holds c s) → AreInOrder s
in_order s holds = ap (objects_in_order s.files s.plan) (holds C2).rows ∙ loaded_in_order s.files s.plan

or_right : (a b : Bool) → b ≡ true → (a || b) ≡ true
or_right true b e = refl
or_right false b e = e

-- what a list contains is found
pub any_of : {X : Type 0} (test : X → Bool) (xs : List X) (x : X) → Contains xs x → test x ≡ true → list_any test xs ≡ true
any_of test [] x c passes = absurd (Contains-nil x c)
any_of {X} test (y ∷ ys) x c passes = by (Contains-cons_cases y ys x c) (any_of test ys x)
  where
    by : (y ≡ x) ⊎ Contains ys x → (Contains ys x → test x ≡ true → list_any test ys ≡ true) → (test y || list_any test ys) ≡ true
    by (inl e) rest = let t : test y ≡ true = subst (λ z. test z ≡ true) (sym e) passes in rw t refl
    by (inr c) rest = or_right (test y) (list_any test ys) (rest c passes)

pub some_of : {X : Type 0} (test : X → Bool) (xs : List X) (x : X) → Contains xs x → test x ≡ true → is_some (find test xs) ≡ true
some_of test [] x c passes = absurd (Contains-nil x c)
some_of {X} test (y ∷ ys) x c passes = by (test y) refl (Contains-cons_cases y ys x c) (some_of test ys x)
  where
    by : (b : Bool) → test y ≡ b → (y ≡ x) ⊎ Contains ys x → (Contains ys x → test x ≡ true → is_some (find test ys) ≡ true)
        → is_some (cond b (Some y) (find test ys)) ≡ true
    by true e c rest = refl
    by false e (inl same) rest = absurd (false≢true (sym e ∙ subst (λ z. test z ≡ true) (sym same) passes))
    by false e (inr c) rest = rest c passes

-- no section is left out, nor a relocation of one
module _ (s : Subject) (order : AreInOrder s) (holds : (c : Clause) → Holds c s) where
  pub pieces_same : pieces_of (foreign_of s) ≡ kept_sections (right.objects_of s)
  pieces_same =
      filter-all (is_in_image (foreign_of s)) (kept_sections (objects_of (foreign_of s))) (λ k d within. refl) ∙ ap kept_sections order

  pub relocations_same : relocations_of (foreign_of s) ≡ relocations (right.objects_of s)
  relocations_same =
      filter-all (is_in_image_too (foreign_of s)) (relocations (objects_of (foreign_of s))) (λ k d within. refl) ∙ ap relocations order

  -- each section has its line
  has_line : (p : Piece) → Contains (kept_sections (right.objects_of s)) p → has_place s.map.places p.object p.section ≡ true
  has_line p c = by (Contains-from_map facts_of_row s.map.places (facts_of_piece p) listed)
    where
      listed : Contains (map facts_of_row s.map.places) (facts_of_piece p)
      listed =
          subst (λ (fs : List SectionFacts). Contains fs (facts_of_piece p)) (sym (holds C3).places)
          (Contains-map facts_of_piece (kept_sections (right.objects_of s)) p c)

      by : Image facts_of_row s.map.places (facts_of_piece p) → has_place s.map.places p.object p.section ≡ true
      by i =
          any_of (λ (row : PlaceRow). row.object == p.object && row.section == p.section) s.map.places i.of i.there
          (and_from _ _ (eq-eqb _ _ (ap (λ (f : SectionFacts). f.object) i.is)) (eq-eqb _ _ (ap (λ (f : SectionFacts). f.section) i.is)))

  all_plain : All (λ p. is_plain (foreign_of s) p ≡ true) (kept_sections (right.objects_of s))
  all_plain =
      All-from_contains (λ p. is_plain (foreign_of s) p ≡ true) (kept_sections (right.objects_of s))
      (λ p c. let t = has_line p c in rw t refl)

  plain_same : plain_pieces (foreign_of s) ≡ kept_sections (right.objects_of s)
  plain_same = ap (filter (is_plain (foreign_of s))) pieces_same ∙ filter-all (is_plain (foreign_of s)) (kept_sections (right.objects_of s)) all_plain

  pub sections_same : sections_of (foreign_of s) ≡ right.sections_of s
  sections_same = ap (placed_by s.map.places) plain_same

  -- each common block has its line, and a block is that of its name
  has_block_line : (b : Block) → Contains (blocks (right.objects_of s)) b → has_common_line s.map.commons b ≡ true
  has_block_line b c =
      let named : is_some (block_named (right.objects_of s) b.name) ≡ true =
      some_of (is_block_of b.name) (blocks (right.objects_of s)) b c ((bytes_eq-Decides b.name b.name).1 refl) in
      by (find (is_common_row_of b.name) s.map.commons) (block_named (right.objects_of s) b.name) ((holds C3).commons b.name) named
    where
      by : (row : Option CommonRow) (block : Option Block)
          → option_map facts_of_common row ≡ option_map facts_of_block block → is_some block ≡ true → is_some row ≡ true
      by (Some row) block e some = refl
      by None None e some = absurd (false≢true some)
      by None (Some block) e some = ap is_some e

  blocks_same : blocks_of (foreign_of s) ≡ blocks (right.objects_of s)
  blocks_same =
      ap (λ (os : List LoadedObject). filter (has_common_line s.map.commons) (blocks os)) order
      ∙ filter-all (has_common_line s.map.commons) (blocks (right.objects_of s))
      (All-from_contains (λ b. has_common_line s.map.commons b ≡ true) (blocks (right.objects_of s)) has_block_line)

  pub placed_same : placed_of (foreign_of s) ≡ right.placed_of s
  placed_same =
      ap (λ (qs : List Placed). qs ++ placed_blocks s.map.commons (blocks_of (foreign_of s))) sections_same
      ∙ ap (λ (bs : List Block). right.sections_of s ++ placed_blocks s.map.commons bs) blocks_same
