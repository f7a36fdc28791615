-- The pieces and the GOT in the order in which the linker lays them out: each of them once, and those that come next to each other in their output section side by side.
use Rattle.std.proofs.Common.{◌≡◌, ℕ, ◌<◌, ◌≤◌, Bool, true, false, not, ◌&&◌, ◌⊎◌, inl, inr, List, ◌++◌, length, refl, sym, ◌∙◌, ap, subst, arith}
use Rattle.std.specs.Prelude.{All, AllPairs, Contains, filter}
use Rattle.std.proofs.lemmas.Bool.{and_parts, false≢true, not-true, and_from}
use Rattle.std.proofs.lemmas.List.Elements.{All-append, All-contains, All-weaker, Contains-append_cases, Contains-append_left, Contains-append_right}
use Rattle.std.proofs.lemmas.List.Kept.{AllPairs-filter}
use Rattle.elf_model.specs.Link.ArrayOrder.{in_array_order, piece_rank}
use Rattle.elf_model.specs.Link.Commons.{block_of, block_piece, block_pieces, blocks, pieces}
use Rattle.elf_model.specs.Link.Loading.{LoadedObject}
use Rattle.elf_model.specs.Own.OwnLayout.{code_pieces, data_pieces, got_header, got_number, got_pieces, grouped, initial_pieces, laid_out, is_code, is_data, is_initial, is_read_only, is_thread_rest, is_zero, read_only_pieces, thread_rest_pieces}
use Rattle.elf_model.specs.Link.Slots.{got_size}
use Rattle.elf_model.specs.Link.Pieces.{AreLawfulKinds, IsLawfulKind, Piece, has_bytes, is_executable, is_nobits, is_thread_piece, is_thread_zero, is_writable, kept_sections, same_output}
use Rattle.elf_model.proofs.ArrayOrder.{filter_by_rank}
use Rattle.elf_model.proofs.Grouped.{AllPairs-grouped, Contains-from_grouped, Contains-grouped, before_grouped, cross_pairs, group_of_filter}
use Rattle.elf_model.proofs.Blocks.{block_bare, block_lawful, block_pieces-ascend, block_pieces-each, block_pieces-object, block_writable}
use Rattle.elf_model.proofs.Listed.{All-from_contains, Contains-filter, Contains-from_filter, Contains-from_map}
use Rattle.elf_model.proofs.Neighbours.{StandsBefore, before_left, before_right}
use Rattle.elf_model.proofs.Pairs.{AllPairs-append, AllPairs-weaker}
use Rattle.elf_model.proofs.PieceNumbers.{AreOtherSections, got_pieces-each, got_pieces-pairs, kept_below, kept_other, laid_out_other, other_sections-sym, pieces_low}
use Rattle.elf_model.proofs.SameOutput.{IsOfOutput, is_code-of_output, is_data-of_output, is_initial-of_output, is_read_only-of_output, is_thread_rest-of_output, is_zero-of_output}

-- a piece is read-only, code, initial bytes of threads, zeros of threads, data or zero
by_bits :
    (w x t b : Bool) (Q : Type 0) → ((not w && not x) ≡ true → Q) → (x ≡ true → Q) → ((w && (t && b)) ≡ true → Q) →
    ((w && (t && not b)) ≡ true → Q) → ((w && (not t && b)) ≡ true → Q) → ((w && (not t && not b)) ≡ true → Q) → Q
by_bits w true t b Q r c i e d z = c refl
by_bits false false t b Q r c i e d z = r refl
by_bits true false true true Q r c i e d z = i refl
by_bits true false true false Q r c i e d z = e refl
by_bits true false false true Q r c i e d z = d refl
by_bits true false false false Q r c i e d z = z refl

pub by_part :
    (p : Piece) (Q : Type 0) → (is_read_only p ≡ true → Q) → (is_code p ≡ true → Q) → (is_initial p ≡ true → Q) →
    (is_thread_rest p ≡ true → Q) → (is_data p ≡ true → Q) → (is_zero p ≡ true → Q) → Q
by_part p Q = by_bits (is_writable p.header) (is_executable p.header) (is_thread_piece p) (has_bytes p) Q

-- what the tests of the parts of RW say
three_parts : (w t b : Bool) → (w && (t && b)) ≡ true → (w ≡ true) × (t ≡ true) × (b ≡ true)
three_parts w t b e =
    let first = and_parts w (t && b) e in
    let rest = and_parts t b first.1 in
    (first.0, rest.0, rest.1)

pub initial_is : (p : Piece) → is_initial p ≡ true → (is_writable p.header ≡ true) × (is_thread_piece p ≡ true) × (has_bytes p ≡ true)
initial_is p e = three_parts (is_writable p.header) (is_thread_piece p) (has_bytes p) e

pub thread_rest_is : (p : Piece) → is_thread_rest p ≡ true → (is_writable p.header ≡ true) × (is_thread_piece p ≡ true) × (has_bytes p ≡ false)
thread_rest_is p e =
    let parts = three_parts (is_writable p.header) (is_thread_piece p) (not (has_bytes p)) e in
    (parts.0, parts.1, not-true (has_bytes p) parts.2)

pub data_is : (p : Piece) → is_data p ≡ true → (is_writable p.header ≡ true) × (is_thread_piece p ≡ false) × (has_bytes p ≡ true)
data_is p e =
    let parts = three_parts (is_writable p.header) (not (is_thread_piece p)) (has_bytes p) e in
    (parts.0, not-true (is_thread_piece p) parts.1, parts.2)

pub zero_is : (p : Piece) → is_zero p ≡ true → (is_writable p.header ≡ true) × (is_thread_piece p ≡ false) × (has_bytes p ≡ false)
zero_is p e =
    let parts = three_parts (is_writable p.header) (not (is_thread_piece p)) (not (has_bytes p)) e in
    (parts.0, not-true (is_thread_piece p) parts.1, not-true (has_bytes p) parts.2)

-- a bool isn't both
both_ways : (b : Bool) → b ≡ true → b ≡ false → ⊥
both_ways b e f = false≢true (sym f ∙ e)

read_only_not_code : (p : Piece) → is_read_only p ≡ true → is_code p ≡ true → ⊥
read_only_not_code p r c =
    let e = (and_parts (not (is_writable p.header)) (not (is_executable p.header)) r).1 in
    false≢true (sym (not-true (is_executable p.header) e) ∙ c)

pub read_only_not_writable : (p : Piece) → is_read_only p ≡ true → is_writable p.header ≡ true → ⊥
read_only_not_writable p r w =
    let e = (and_parts (not (is_writable p.header)) (not (is_executable p.header)) r).0 in
    false≢true (sym (not-true (is_writable p.header) e) ∙ w)

pub code_not_writable : (p : Piece) → IsLawfulKind p.header → is_code p ≡ true → is_writable p.header ≡ true → ⊥
code_not_writable p lawful c w = false≢true (sym lawful.not_both ∙ and_from (is_writable p.header) (is_executable p.header) w c)

-- the kept sections that pass a test, grouped
abbrev pub chosen : (Piece → Bool) → List LoadedObject → List Piece
chosen t objects = grouped (filter t (kept_sections objects))

to_chosen : (t : Piece → Bool) (objects : List LoadedObject) (p : Piece) → Contains (kept_sections objects) p → t p ≡ true → Contains (chosen t objects) p
to_chosen t objects p c passes = Contains-grouped (filter t (kept_sections objects)) p (Contains-filter t (kept_sections objects) p c passes)

pub from_chosen_kept : (t : Piece → Bool) (objects : List LoadedObject) (p : Piece) → Contains (chosen t objects) p → Contains (kept_sections objects) p × (t p ≡ true)
from_chosen_kept t objects p c = Contains-from_filter t (kept_sections objects) p (Contains-from_grouped (filter t (kept_sections objects)) p c)

kept_is_piece : (objects : List LoadedObject) (p : Piece) → Contains (kept_sections objects) p → Contains (pieces objects) p
kept_is_piece objects p c = Contains-append_left (kept_sections objects) (block_pieces objects) p c

-- a piece is laid out
pub is_laid_out : (objects : List LoadedObject) (p : Piece) → Contains (pieces objects) p → Contains (laid_out objects) p
is_laid_out objects p c = Contains-append_left (pieces objects) (got_pieces objects) p c

from_chosen : (t : Piece → Bool) (objects : List LoadedObject) (p : Piece) → Contains (chosen t objects) p → Contains (pieces objects) p × (t p ≡ true)
from_chosen t objects p c = let from = from_chosen_kept t objects p c in (kept_is_piece objects p from.0, from.1)

chosen_other : (t : Piece → Bool) (objects : List LoadedObject) → AllPairs AreOtherSections (chosen t objects)
chosen_other t objects =
    AllPairs-grouped AreOtherSections (filter t (kept_sections objects)) other_sections-sym
    (AllPairs-filter AreOtherSections t (kept_sections objects) (kept_other objects))

chosen_before :
    (t : Piece → Bool) (objects : List LoadedObject) (p q : Piece) → IsOfOutput t → Contains (kept_sections objects) p → t p ≡ true →
    StandsBefore (filter (same_output p) (in_array_order (kept_sections objects))) p q → StandsBefore (chosen t objects) p q
chosen_before t objects p q of_output c passes before =
    before_grouped (filter t (kept_sections objects)) p q (Contains-filter t (kept_sections objects) p c passes)
    (subst (λ (ps : List Piece). StandsBefore ps p q)
    (filter_by_rank piece_rank (same_output p) (kept_sections objects)
    ∙ ap in_array_order (sym (group_of_filter t (kept_sections objects) p of_output passes))) before)

-- a block is a piece, is writable, and has no bytes
from_blocks : (objects : List LoadedObject) (p : Piece) → Contains (block_pieces objects) p → Contains (pieces objects) p × (is_writable p.header ≡ true) × (has_bytes p ≡ false)
from_blocks objects p c =
    let image = Contains-from_map block_piece (blocks objects) p c in (
      Contains-append_right (kept_sections objects) (block_pieces objects) p c,
      subst (λ (q : Piece). is_writable q.header ≡ true) image.is (block_writable image.of),
      subst (λ (q : Piece). has_bytes q ≡ false) image.is (block_bare image.of),
    )

-- the pieces without bytes that may be written, and among them the blocks
abbrev zeros : List LoadedObject → List Piece
zeros objects = chosen is_zero objects ++ block_pieces objects

from_zeros : (objects : List LoadedObject) (p : Piece) → Contains (zeros objects) p → Contains (pieces objects) p × (is_writable p.header ≡ true) × (has_bytes p ≡ false)
from_zeros objects p c = by (Contains-append_cases (chosen is_zero objects) (block_pieces objects) p c)
  where
    by :
        Contains (chosen is_zero objects) p ⊎ Contains (block_pieces objects) p →
        Contains (pieces objects) p × (is_writable p.header ≡ true) × (has_bytes p ≡ false)
    by (inl z) =
        let f = from_chosen is_zero objects p z in
        let is = zero_is p f.1 in
        (f.0, is.0, is.2)
    by (inr b) = from_blocks objects p b

-- the GOT as a piece may be written, and is of no object that pieces are of
from_got : (objects : List LoadedObject) (p : Piece) → Contains (got_pieces objects) p → (is_writable p.header ≡ true) × (p.object ≡ got_number objects)
from_got objects p c = All-contains (λ q. (is_writable q.header ≡ true) × (q.object ≡ got_number objects)) (got_pieces objects) p (got_pieces-each objects (λ q. (is_writable q.header ≡ true) × (q.object ≡ got_number objects)) (refl, refl)) c

-- what stands behind the pieces with bytes that may be written
abbrev after_data : List LoadedObject → List Piece
after_data objects = got_pieces objects ++ zeros objects

from_after_data : (objects : List LoadedObject) (p : Piece) → Contains (after_data objects) p → Contains (laid_out objects) p × (is_writable p.header ≡ true)
from_after_data objects p c = by (Contains-append_cases (got_pieces objects) (zeros objects) p c)
  where
    by : Contains (got_pieces objects) p ⊎ Contains (zeros objects) p → Contains (laid_out objects) p × (is_writable p.header ≡ true)
    by (inl g) = (Contains-append_right (pieces objects) (got_pieces objects) p g, (from_got objects p g).0)
    by (inr z) = let f = from_zeros objects p z in (is_laid_out objects p f.0, f.1)

-- the kind of each piece is lawful where those of all kept sections are
pub pieces_lawful : (objects : List LoadedObject) → AreLawfulKinds objects → All (λ p. IsLawfulKind p.header) (pieces objects)
pieces_lawful objects kinds =
    All-append (λ p. IsLawfulKind p.header) (kept_sections objects) (block_pieces objects) kinds
    (block_pieces-each objects (λ p. IsLawfulKind p.header) (λ k s c. block_lawful (block_of objects k s)))

got_lawful : (size : ℕ) → IsLawfulKind (got_header size)
got_lawful size = record {
  type_ = (0, omega arith, refl);
  flags = refl;
  not_both = refl;
  thread_local = λ e. refl;
  nobits = λ e. refl;
}

pub laid_out_lawful : (objects : List LoadedObject) → AreLawfulKinds objects → All (λ p. IsLawfulKind p.header) (laid_out objects)
laid_out_lawful objects kinds =
    All-append (λ p. IsLawfulKind p.header) (pieces objects) (got_pieces objects) (pieces_lawful objects kinds)
    (got_pieces-each objects (λ p. IsLawfulKind p.header) (got_lawful (got_size objects)))

-- where a piece of the own order comes from, and where each piece goes
pub from_read_only : (objects : List LoadedObject) (p : Piece) → Contains (read_only_pieces objects) p → Contains (laid_out objects) p × (is_read_only p ≡ true)
from_read_only objects p c = let f = from_chosen is_read_only objects p c in (is_laid_out objects p f.0, f.1)

pub from_code : (objects : List LoadedObject) (p : Piece) → Contains (code_pieces objects) p → Contains (laid_out objects) p × (is_code p ≡ true)
from_code objects p c = let f = from_chosen is_code objects p c in (is_laid_out objects p f.0, f.1)

-- the pieces of RW that aren't thread-local
abbrev pub plain_data : List LoadedObject → List Piece
plain_data objects = chosen is_data objects ++ after_data objects

pub from_plain_data : (objects : List LoadedObject) (p : Piece) → Contains (plain_data objects) p → Contains (laid_out objects) p × (is_writable p.header ≡ true)
from_plain_data objects p c = by (Contains-append_cases (chosen is_data objects) (after_data objects) p c)
  where
    by : Contains (chosen is_data objects) p ⊎ Contains (after_data objects) p → Contains (laid_out objects) p × (is_writable p.header ≡ true)
    by (inl d) = let f = from_chosen is_data objects p d in (is_laid_out objects p f.0, (data_is p f.1).0)
    by (inr rest) = from_after_data objects p rest

pub from_initial : (objects : List LoadedObject) (p : Piece) → Contains (initial_pieces objects) p → Contains (laid_out objects) p × (is_initial p ≡ true)
from_initial objects p c = let f = from_chosen is_initial objects p c in (is_laid_out objects p f.0, f.1)

pub from_data : (objects : List LoadedObject) (p : Piece) → Contains (data_pieces objects) p → Contains (laid_out objects) p × (is_writable p.header ≡ true)
from_data objects p c = by (Contains-append_cases (initial_pieces objects) (plain_data objects) p c)
  where
    by : Contains (initial_pieces objects) p ⊎ Contains (plain_data objects) p → Contains (laid_out objects) p × (is_writable p.header ≡ true)
    by (inl i) = let f = from_initial objects p i in (f.0, (initial_is p f.1).0)
    by (inr rest) = from_plain_data objects p rest

pub from_thread_rest : (objects : List LoadedObject) (p : Piece) → Contains (thread_rest_pieces objects) p → Contains (laid_out objects) p × (is_thread_rest p ≡ true)
from_thread_rest objects p c = let f = from_chosen is_thread_rest objects p c in (is_laid_out objects p f.0, f.1)

-- those for which memory has a place, and all of them
abbrev pub loaded_order : List LoadedObject → List Piece
loaded_order objects = read_only_pieces objects ++ (code_pieces objects ++ data_pieces objects)

abbrev pub own_order : List LoadedObject → List Piece
own_order objects = loaded_order objects ++ thread_rest_pieces objects

code_or_data : (objects : List LoadedObject) (p : Piece) → Contains (code_pieces objects ++ data_pieces objects) p → Contains (laid_out objects) p
code_or_data objects p c = by (Contains-append_cases (code_pieces objects) (data_pieces objects) p c)
  where
    by : Contains (code_pieces objects) p ⊎ Contains (data_pieces objects) p → Contains (laid_out objects) p
    by (inl code) = (from_code objects p code).0
    by (inr rest) = (from_data objects p rest).0

from_loaded_order : (objects : List LoadedObject) (p : Piece) → Contains (loaded_order objects) p → Contains (laid_out objects) p
from_loaded_order objects p c = by (Contains-append_cases (read_only_pieces objects) (code_pieces objects ++ data_pieces objects) p c)
  where
    by : Contains (read_only_pieces objects) p ⊎ Contains (code_pieces objects ++ data_pieces objects) p → Contains (laid_out objects) p
    by (inl r) = (from_read_only objects p r).0
    by (inr rest) = code_or_data objects p rest

pub from_own_order : (objects : List LoadedObject) (p : Piece) → Contains (own_order objects) p → Contains (laid_out objects) p
from_own_order objects p c = by (Contains-append_cases (loaded_order objects) (thread_rest_pieces objects) p c)
  where
    by : Contains (loaded_order objects) p ⊎ Contains (thread_rest_pieces objects) p → Contains (laid_out objects) p
    by (inl loaded) = from_loaded_order objects p loaded
    by (inr rest) = (from_thread_rest objects p rest).0

-- what follows from a fact of one of the four lists, whichever it is
pub record IsInOnePart (Q : List Piece → Type 0) (objects : List LoadedObject) (R : Type 0) : Type 0 where
  pub read_only : Q (read_only_pieces objects) → R
  pub code : Q (code_pieces objects) → R
  pub data_ : Q (data_pieces objects) → R
  pub thread_rest : Q (thread_rest_pieces objects) → R

-- a fact of the list of a piece's kind, that a longer list keeps, is one of the four lists
pub in_one_part :
    (Q : List Piece → Type 0) (objects : List LoadedObject) (p : Piece) (R : Type 0) →
    ((t : Piece → Bool) → IsOfOutput t → t p ≡ true → Q (chosen t objects)) →
    ((xs ys : List Piece) → Q xs → Q (xs ++ ys)) → ((xs ys : List Piece) → Q ys → Q (xs ++ ys)) → IsInOnePart Q objects R → R
in_one_part Q objects p R of_test left right part =
    by_part p R
    (λ r. part.read_only (of_test is_read_only is_read_only-of_output r))
    (λ c. part.code (of_test is_code is_code-of_output c))
    (λ i. part.data_ (left (initial_pieces objects) (plain_data objects) (of_test is_initial is_initial-of_output i)))
    (λ e. part.thread_rest (of_test is_thread_rest is_thread_rest-of_output e))
    (λ d. part.data_
    (right (initial_pieces objects) (plain_data objects) (left (chosen is_data objects) (after_data objects) (of_test is_data is_data-of_output d))))
    (λ z. part.data_
    (right (initial_pieces objects) (plain_data objects)
    (right (chosen is_data objects) (after_data objects)
    (right (got_pieces objects) (zeros objects) (left (chosen is_zero objects) (block_pieces objects) (of_test is_zero is_zero-of_output z))))))

-- each piece stands in one of the four lists
pub piece_in_part :
    (objects : List LoadedObject) (p : Piece) (R : Type 0) → Contains (laid_out objects) p → IsInOnePart (λ ps. Contains ps p) objects R → R
piece_in_part objects p R c part = whole (Contains-append_cases (pieces objects) (got_pieces objects) p c)
  where
    behind : Contains (after_data objects) p → R
    behind rest =
        part.data_
        (Contains-append_right (initial_pieces objects) (plain_data objects) p (Contains-append_right (chosen is_data objects) (after_data objects) p rest))

    by : Contains (kept_sections objects) p ⊎ Contains (block_pieces objects) p → R
    by (inl kept) =
        in_one_part (λ ps. Contains ps p) objects p R (λ t of_output passes. to_chosen t objects p kept passes)
        (λ xs ys there. Contains-append_left xs ys p there) (λ xs ys there. Contains-append_right xs ys p there) part
    by (inr block) = behind (Contains-append_right (got_pieces objects) (zeros objects) p (Contains-append_right (chosen is_zero objects) (block_pieces objects) p block))

    whole : Contains (pieces objects) p ⊎ Contains (got_pieces objects) p → R
    whole (inl piece) = by (Contains-append_cases (kept_sections objects) (block_pieces objects) p piece)
    whole (inr got) = behind (Contains-append_left (got_pieces objects) (zeros objects) p got)

-- neighbours in an output section stand side by side in one of the four lists
pub neighbours_in_part :
    (objects : List LoadedObject) (p q : Piece) (R : Type 0) → Contains (kept_sections objects) p →
    StandsBefore (filter (same_output p) (in_array_order (kept_sections objects))) p q → IsInOnePart (λ ps. StandsBefore ps p q) objects R → R
neighbours_in_part objects p q R c before =
    in_one_part (λ ps. StandsBefore ps p q) objects p R (λ t of_output passes. chosen_before t objects p q of_output c passes before)
    (λ xs ys there. before_left xs ys p q there) (λ xs ys there. before_right xs ys p q there)

pub to_own_order : (objects : List LoadedObject) (p : Piece) → Contains (laid_out objects) p → Contains (own_order objects) p
to_own_order objects p c =
    piece_in_part objects p (Contains (own_order objects) p) c (record {
      read_only = λ r. loaded (Contains-append_left (read_only_pieces objects) (code_pieces objects ++ data_pieces objects) p r);
      code = λ x.
          loaded (Contains-append_right (read_only_pieces objects) (code_pieces objects ++ data_pieces objects) p
          (Contains-append_left (code_pieces objects) (data_pieces objects) p x));
      data_ = λ d.
          loaded (Contains-append_right (read_only_pieces objects) (code_pieces objects ++ data_pieces objects) p
          (Contains-append_right (code_pieces objects) (data_pieces objects) p d));
      thread_rest = λ e. Contains-append_right (loaded_order objects) (thread_rest_pieces objects) p e;
    })
  where
    loaded : Contains (loaded_order objects) p → Contains (own_order objects) p
    loaded there = Contains-append_left (loaded_order objects) (thread_rest_pieces objects) p there

-- no piece stands there twice
module _ (objects : List LoadedObject) (kinds : AreLawfulKinds objects) where
  cross :
      (xs ys : List Piece) → ((x : Piece) → Contains xs x → Contains (laid_out objects) x) →
      ((y : Piece) → Contains ys y → Contains (laid_out objects) y) → ((x : Piece) → Contains xs x → Contains ys x → ⊥) →
      All (λ x. All (AreOtherSections x) ys) xs
  cross xs ys = cross_pairs AreOtherSections (laid_out objects) xs ys other_sections-sym (laid_out_other objects)

  -- a block is no kept section
  zeros_other : AllPairs AreOtherSections (zeros objects)
  zeros_other =
      AllPairs-append AreOtherSections (chosen is_zero objects) (block_pieces objects) (chosen_other is_zero objects) blocks_apart
      (All-from_contains (λ x. All (AreOtherSections x) (block_pieces objects)) (chosen is_zero objects) (λ x c.
      let below = All-contains (λ (p : Piece). p.object < length objects) (kept_sections objects) x (kept_below objects) (from_chosen_kept is_zero objects x c).0 in
      All-weaker (λ (q : Piece). q.object ≡ length objects) (AreOtherSections x) (λ q n e f. omega (arith, below, n, e)) (block_pieces objects) (block_pieces-object objects)))
    where
      blocks_apart : AllPairs AreOtherSections (block_pieces objects)
      blocks_apart =
          AllPairs-weaker (λ (p q : Piece). (p.object ≡ q.object) × (p.section < q.section)) AreOtherSections (λ p q n e f. omega (arith, n, f))
          (block_pieces objects) (block_pieces-ascend objects)

  -- the GOT is no piece
  not_got : (x : Piece) → Contains (pieces objects) x → Contains (got_pieces objects) x → ⊥
  not_got x c g =
      let low = All-contains (λ (p : Piece). p.object ≤ length objects) (pieces objects) x (pieces_low objects) c in
      let number = (from_got objects x g).1 in
      omega (arith, low, number)

  after_data_other : AllPairs AreOtherSections (after_data objects)
  after_data_other =
      AllPairs-append AreOtherSections (got_pieces objects) (zeros objects) (got_pieces-pairs objects AreOtherSections) zeros_other
      (cross (got_pieces objects) (zeros objects)
      (λ x g. Contains-append_right (pieces objects) (got_pieces objects) x g) (λ y c. is_laid_out objects y (from_zeros objects y c).0)
      (λ x g e. not_got x (from_zeros objects x e).0 g))

  -- a kept section is no block
  not_block : (x : Piece) → Contains (kept_sections objects) x → Contains (block_pieces objects) x → ⊥
  not_block x c e =
      let below = All-contains (λ (p : Piece). p.object < length objects) (kept_sections objects) x (kept_below objects) c in
      let number = All-contains (λ (p : Piece). p.object ≡ length objects) (block_pieces objects) x (block_pieces-object objects) e in
      omega (arith, below, number)

  -- a kept section that passes a test that none of the GOT's and the zeros' kept sections pass isn't among these
  not_after : (t : Piece → Bool) (x : Piece) → Contains (chosen t objects) x → (t x ≡ true → is_zero x ≡ true → ⊥) → Contains (after_data objects) x → ⊥
  not_after t x c other e = by (Contains-append_cases (got_pieces objects) (zeros objects) x e)
    where
      f : Contains (kept_sections objects) x × (t x ≡ true)
      f = from_chosen_kept t objects x c

      among_zeros : Contains (chosen is_zero objects) x ⊎ Contains (block_pieces objects) x → ⊥
      among_zeros (inl z) = other f.1 (from_chosen is_zero objects x z).1
      among_zeros (inr b) = not_block x f.0 b

      by : Contains (got_pieces objects) x ⊎ Contains (zeros objects) x → ⊥
      by (inl g) = not_got x (kept_is_piece objects x f.0) g
      by (inr z) = among_zeros (Contains-append_cases (chosen is_zero objects) (block_pieces objects) x z)

  data_not_zero : (x : Piece) → is_data x ≡ true → is_zero x ≡ true → ⊥
  data_not_zero x d z = both_ways (has_bytes x) (data_is x d).2 (zero_is x z).2

  initial_not_zero : (x : Piece) → is_initial x ≡ true → is_zero x ≡ true → ⊥
  initial_not_zero x i z = both_ways (has_bytes x) (initial_is x i).2 (zero_is x z).2

  rest_not_zero : (x : Piece) → is_thread_rest x ≡ true → is_zero x ≡ true → ⊥
  rest_not_zero x e z = both_ways (is_thread_piece x) (thread_rest_is x e).1 (zero_is x z).1

  plain_other : AllPairs AreOtherSections (plain_data objects)
  plain_other =
      AllPairs-append AreOtherSections (chosen is_data objects) (after_data objects) (chosen_other is_data objects) after_data_other
      (cross (chosen is_data objects) (after_data objects)
      (λ x c. is_laid_out objects x (from_chosen is_data objects x c).0) (λ y c. (from_after_data objects y c).0)
      (λ x c e. not_after is_data x c (data_not_zero x) e))

  -- a kept section that passes a test that data and zeros don't isn't among the plain ones
  not_plain :
      (t : Piece → Bool) (x : Piece) → Contains (chosen t objects) x → (t x ≡ true → is_data x ≡ true → ⊥) →
      (t x ≡ true → is_zero x ≡ true → ⊥) → Contains (plain_data objects) x → ⊥
  not_plain t x c other_data other_zero e = by (Contains-append_cases (chosen is_data objects) (after_data objects) x e)
    where
      by : Contains (chosen is_data objects) x ⊎ Contains (after_data objects) x → ⊥
      by (inl d) = other_data (from_chosen t objects x c).1 (from_chosen is_data objects x d).1
      by (inr rest) = not_after t x c other_zero rest

  initial_not_data : (x : Piece) → is_initial x ≡ true → is_data x ≡ true → ⊥
  initial_not_data x i d = both_ways (is_thread_piece x) (initial_is x i).1 (data_is x d).1

  rest_not_data : (x : Piece) → is_thread_rest x ≡ true → is_data x ≡ true → ⊥
  rest_not_data x e d = both_ways (is_thread_piece x) (thread_rest_is x e).1 (data_is x d).1

  data_other : AllPairs AreOtherSections (data_pieces objects)
  data_other =
      AllPairs-append AreOtherSections (initial_pieces objects) (plain_data objects) (chosen_other is_initial objects) plain_other
      (cross (initial_pieces objects) (plain_data objects)
      (λ x c. (from_initial objects x c).0) (λ y c. (from_plain_data objects y c).0)
      (λ x c e. not_plain is_initial x c (initial_not_data x) (initial_not_zero x) e))

  code_data_other : AllPairs AreOtherSections (code_pieces objects ++ data_pieces objects)
  code_data_other =
      AllPairs-append AreOtherSections (code_pieces objects) (data_pieces objects) (chosen_other is_code objects) data_other
      (cross (code_pieces objects) (data_pieces objects)
      (λ x c. (from_code objects x c).0) (λ y c. (from_data objects y c).0)
      (λ x c e.
      let f = from_code objects x c in
      let lawful = All-contains (λ (p : Piece). IsLawfulKind p.header) (laid_out objects) x (laid_out_lawful objects kinds) f.0 in
      code_not_writable x lawful f.1 (from_data objects x e).1))

  not_both_ways : (x : Piece) → Contains (read_only_pieces objects) x → Contains (code_pieces objects ++ data_pieces objects) x → ⊥
  not_both_ways x c e = by (Contains-append_cases (code_pieces objects) (data_pieces objects) x e)
    where
      r : is_read_only x ≡ true
      r = (from_read_only objects x c).1

      by : Contains (code_pieces objects) x ⊎ Contains (data_pieces objects) x → ⊥
      by (inl code) = read_only_not_code x r (from_code objects x code).1
      by (inr rest) = read_only_not_writable x r (from_data objects x rest).1

  loaded_other : AllPairs AreOtherSections (loaded_order objects)
  loaded_other =
      AllPairs-append AreOtherSections (read_only_pieces objects) (code_pieces objects ++ data_pieces objects)
      (chosen_other is_read_only objects) code_data_other
      (cross (read_only_pieces objects) (code_pieces objects ++ data_pieces objects)
      (λ x c. (from_read_only objects x c).0) (λ y c. code_or_data objects y c) not_both_ways)

  -- no thread-local piece without bytes is among the others
  not_loaded : (x : Piece) → Contains (loaded_order objects) x → Contains (thread_rest_pieces objects) x → ⊥
  not_loaded x c e = by (Contains-append_cases (read_only_pieces objects) (code_pieces objects ++ data_pieces objects) x c)
    where
      of_rest : Contains (laid_out objects) x × (is_thread_rest x ≡ true)
      of_rest = from_thread_rest objects x e

      is : (is_writable x.header ≡ true) × (is_thread_piece x ≡ true) × (has_bytes x ≡ false)
      is = thread_rest_is x of_rest.1

      lawful : IsLawfulKind x.header
      lawful = All-contains (λ (p : Piece). IsLawfulKind p.header) (laid_out objects) x (laid_out_lawful objects kinds) of_rest.0

      in_data : Contains (initial_pieces objects) x ⊎ Contains (plain_data objects) x → ⊥
      in_data (inl i) = both_ways (has_bytes x) (initial_is x (from_initial objects x i).1).2 is.2
      in_data (inr plain) = not_plain is_thread_rest x e (rest_not_data x) (rest_not_zero x) plain

      in_rest : Contains (code_pieces objects) x ⊎ Contains (data_pieces objects) x → ⊥
      in_rest (inl code) = code_not_writable x lawful (from_code objects x code).1 is.0
      in_rest (inr d) = in_data (Contains-append_cases (initial_pieces objects) (plain_data objects) x d)

      by : Contains (read_only_pieces objects) x ⊎ Contains (code_pieces objects ++ data_pieces objects) x → ⊥
      by (inl r) = read_only_not_writable x (from_read_only objects x r).1 is.0
      by (inr rest) = in_rest (Contains-append_cases (code_pieces objects) (data_pieces objects) x rest)

  pub own_order_other : AllPairs AreOtherSections (own_order objects)
  own_order_other =
      AllPairs-append AreOtherSections (loaded_order objects) (thread_rest_pieces objects) loaded_other (chosen_other is_thread_rest objects)
      (cross (loaded_order objects) (thread_rest_pieces objects)
      (λ x c. from_loaded_order objects x c) (λ y c. (from_thread_rest objects y c).0) not_loaded)

  -- Memory has a place for the whole of each of the others: none is a thread-local one without bytes.
  pub read_only_not_thread : (x : Piece) → Contains (read_only_pieces objects) x → is_thread_piece x ≡ true → ⊥
  read_only_not_thread x c t =
      let f = from_read_only objects x c in
      let lawful = All-contains (λ (p : Piece). IsLawfulKind p.header) (laid_out objects) x (laid_out_lawful objects kinds) f.0 in
      read_only_not_writable x f.1 (lawful.thread_local t)

  pub code_not_thread : (x : Piece) → Contains (code_pieces objects) x → is_thread_piece x ≡ true → ⊥
  code_not_thread x c t =
      let f = from_code objects x c in
      let lawful = All-contains (λ (p : Piece). IsLawfulKind p.header) (laid_out objects) x (laid_out_lawful objects kinds) f.0 in
      code_not_writable x lawful f.1 (lawful.thread_local t)

  pub plain_not_thread : (x : Piece) → Contains (plain_data objects) x → is_thread_piece x ≡ false
  plain_not_thread x c = by (Contains-append_cases (chosen is_data objects) (after_data objects) x c)
    where
      of_zeros : Contains (chosen is_zero objects) x ⊎ Contains (block_pieces objects) x → is_thread_piece x ≡ false
      of_zeros (inl z) = (zero_is x (from_chosen is_zero objects x z).1).1
      of_zeros (inr b) =
          All-contains (λ (p : Piece). is_thread_piece p ≡ false) (block_pieces objects) x
          (block_pieces-each objects (λ p. is_thread_piece p ≡ false) (λ k s c. refl)) b

      of_rest : Contains (got_pieces objects) x ⊎ Contains (zeros objects) x → is_thread_piece x ≡ false
      of_rest (inl g) =
          All-contains (λ (p : Piece). is_thread_piece p ≡ false) (got_pieces objects) x
          (got_pieces-each objects (λ p. is_thread_piece p ≡ false) refl) g
      of_rest (inr z) = of_zeros (Contains-append_cases (chosen is_zero objects) (block_pieces objects) x z)

      by : Contains (chosen is_data objects) x ⊎ Contains (after_data objects) x → is_thread_piece x ≡ false
      by (inl d) = (data_is x (from_chosen is_data objects x d).1).1
      by (inr rest) = of_rest (Contains-append_cases (got_pieces objects) (zeros objects) x rest)

  bare_not_data : (x : Piece) → Contains (data_pieces objects) x → is_thread_zero x ≡ true → ⊥
  bare_not_data x c z = by (Contains-append_cases (initial_pieces objects) (plain_data objects) x c)
    where
      parts : (is_thread_piece x ≡ true) × (is_nobits x.header ≡ true)
      parts = and_parts (is_thread_piece x) (is_nobits x.header) z

      by : Contains (initial_pieces objects) x ⊎ Contains (plain_data objects) x → ⊥
      by (inl i) = both_ways (is_nobits x.header) parts.1 (not-true (is_nobits x.header) (initial_is x (from_initial objects x i).1).2)
      by (inr plain) = both_ways (is_thread_piece x) parts.0 (plain_not_thread x plain)

  pub loaded_whole : (x : Piece) → Contains (loaded_order objects) x → is_thread_zero x ≡ false
  loaded_whole x c = by (is_thread_zero x) refl
    where
      in_rest : is_thread_zero x ≡ true → Contains (code_pieces objects) x ⊎ Contains (data_pieces objects) x → ⊥
      in_rest z (inl code) = code_not_thread x code (and_parts (is_thread_piece x) (is_nobits x.header) z).0
      in_rest z (inr d) = bare_not_data x d z

      never : is_thread_zero x ≡ true → Contains (read_only_pieces objects) x ⊎ Contains (code_pieces objects ++ data_pieces objects) x → ⊥
      never z (inl r) = read_only_not_thread x r (and_parts (is_thread_piece x) (is_nobits x.header) z).0
      never z (inr rest) = in_rest z (Contains-append_cases (code_pieces objects) (data_pieces objects) x rest)

      by : (b : Bool) → is_thread_zero x ≡ b → is_thread_zero x ≡ false
      by true e = absurd (never e (Contains-append_cases (read_only_pieces objects) (code_pieces objects ++ data_pieces objects) x c))
      by false e = e

-- those without bytes are thread-local zeros
pub thread_rest_bare : (objects : List LoadedObject) (x : Piece) → Contains (thread_rest_pieces objects) x → is_thread_zero x ≡ true
thread_rest_bare objects x c =
    let is = thread_rest_is x (from_thread_rest objects x c).1 in
    and_from (is_thread_piece x) (is_nobits x.header) is.1 (bare (is_nobits x.header) is.2)
  where
    bare : (b : Bool) → not b ≡ false → b ≡ true
    bare true e = refl
    bare false e = sym e
