-- The pieces of an object in the order of their sections, with the fields of the RELA sections that relocate them: one piece more,
-- and what is told once none is left.
use Rattle.std.proofs.Common.{◌≡◌, ℕ, ◌+◌, ◌<◌, ◌≤◌, ◌==◌, inl, inr, Bool, true, false, cond, List, [], ◌∷◌, ◌++◌, Some, drop, get_or, length, length-take, refl, suc, sym, take, take-append-drop, ap, ap₂, subst, ◌∙◌, arith}
use Rattle.std.specs.Prelude.{All, AllPairs, filter, find, unwrap_or}
use Rattle.std.specs.List.{prefix_len}
use Rattle.std.proofs.Math.Seq.{take-suc}
use Rattle.std.proofs.lemmas.Bool.{eqb-true}
use Rattle.std.proofs.lemmas.Bool.Decides.{nat_tests}
use Rattle.std.proofs.lemmas.List.{append-nil, append_assoc, get_or-take, take_all}
use Rattle.std.proofs.lemmas.List.Elements.{All-append, All-cons, All-map, All-nil, All-weaker, filter-append}
use Rattle.std.proofs.lemmas.List.Sums.{prefix_len_passes}
use Rattle.elf_model.proofs.Finding.{filter-all, filter-none}
use Rattle.elf_model.proofs.Pairs.{AllPairs-append}
use Rattle.elf_model.specs.Inputs.ObjectFile.{relas}
use Rattle.elf_model.specs.Link.Placement as placement
use Rattle.elf_model.specs.Link.Relocation.{Relocation, is_some_kind}
use Rattle.elf_model.specs.declared.records.Rela.{Rela}
use Rattle.check_load.specs.Kept.{kept_relas}
use Rattle.check_load.specs.KeptRelocations.{entries_behind, entry_at, relocations_of_rela, relocations_of_relas}
use Rattle.check_load.specs.declared.kept_relocations.KeptRelocation.{KeptRelocation}
use Rattle.check_load.specs.declared.kept_sections.KeptRela.{KeptRela}
use Rattle.check_link.specs.Views.{placed_view}
use Rattle.check_link.specs.declared.things.Placed.{Placed}
use Rattle.check_relocs.specs.Bytes.{EndsBefore, HoldsFields, byte_of, covers, is_of}
use Rattle.check_relocs.specs.Fields.{IsBefore, IsRight, field_of}
use Rattle.check_relocs.specs.Referrers.{object_here, objects_here, relocation_here}
use Rattle.check_relocs.specs.declared.fields.Field.{Field}
use Rattle.check_relocs.specs.declared.referrer.Referrer.{Referrer}
use Rattle.checker.specs.Rising.{AreInOrder, AreInOrderSoFar, AreRightHere, HasFields, fields_of, relocations_of}
use Rattle.checker.proofs.RisingFields.{fields_joined, relocations_joined}

-- the relocations of a RELA section are of the section that it relocates
entries_of : (k : KeptRela) (i : ℕ) (es : List Rela) → All (λ x. x.section ≡ k.target) (entries_behind k i es)
entries_of k i [] = All-nil (λ (x : KeptRelocation). x.section ≡ k.target)
entries_of k i (e ∷ es) = by (is_some_kind e) (entries_of k (i + 1) es)
  where
    by :
        (b : Bool) → All (λ (x : KeptRelocation). x.section ≡ k.target) (entries_behind k (i + 1) es) →
        All (λ (x : KeptRelocation). x.section ≡ k.target) (cond b (entry_at k i e ∷ []) [] ++ entries_behind k (i + 1) es)
    by true rest = All-cons (λ (x : KeptRelocation). x.section ≡ k.target) (entry_at k i e) (entries_behind k (i + 1) es) refl rest
    by false rest = rest

relas_of_section :
    (bytes : List ℕ) (s : ℕ) (ks : List KeptRela) → All (λ k. k.target ≡ s) ks →
    All (λ x. x.section ≡ s) (relocations_of_relas bytes ks)
relas_of_section bytes s [] all = All-nil (λ (x : KeptRelocation). x.section ≡ s)
relas_of_section bytes s (k ∷ ks) all =
    All-append (λ (x : KeptRelocation). x.section ≡ s) (relocations_of_rela bytes k) (relocations_of_relas bytes ks)
    (All-weaker (λ (x : KeptRelocation). x.section ≡ k.target) (λ x. x.section ≡ s) (λ x e. e ∙ all 0 k (omega arith)) (relocations_of_rela bytes k) (entries_of k 0 (unwrap_or (relas bytes k.number) [])))
    (relas_of_section bytes s ks (λ j d low. all (suc j) d (omega (arith, low))))

fields_of_section :
    (r : Referrer) (s : ℕ) (ks : List KeptRela) → All (λ k. k.target ≡ s) ks → All (λ f. f.section ≡ s) (fields_of r ks)
fields_of_section r s ks all =
    All-map (λ (f : Field). f.section ≡ s) (field_of (objects_here r) r.bindings.now.places) (relocations_of r ks)
    (All-map (λ (x : Relocation). x.section ≡ s) (relocation_here r) (relocations_of_relas (object_here r).bytes ks)
    (relas_of_section (object_here r).bytes s ks all))

-- fields of one section, of lower ones, or of others, among those of a section
of_it : (s : ℕ) (fs : List Field) → All (λ f. f.section ≡ s) fs → filter (is_of s) fs ≡ fs
of_it s fs all =
    filter-all (is_of s) fs (All-weaker (λ (f : Field). f.section ≡ s) (λ f. is_of s f ≡ true) (λ f e. grind (arith, nat_tests)) fs all)

off_it : (s t : ℕ) (fs : List Field) → t < s → All (λ f. f.section ≡ s) fs → filter (is_of t) fs ≡ []
off_it s t fs low all =
    filter-none (is_of t) fs (All-weaker (λ (f : Field). f.section ≡ s) (λ f. is_of t f ≡ false) (λ f e. grind (arith, nat_tests)) fs all)

below_it : (s low : ℕ) (fs : List Field) → low ≤ s → All (λ f. f.section < low) fs → filter (is_of s) fs ≡ []
below_it s low fs up all =
    filter-none (is_of s) fs (All-weaker (λ (f : Field). f.section < low) (λ f. is_of s f ≡ false) (λ f e. grind (arith, nat_tests)) fs all)

holds_same :
    (image : List ℕ) (fs gs : List Field) (q : placement.Placed) → filter (is_of q.piece.section) fs ≡ filter (is_of q.piece.section) gs →
    HoldsFields image fs q → HoldsFields image gs q
holds_same image fs gs q same held = record {
  bytes = λ k low. held.bytes k low ∙ ap (λ (hs : List Field). Some (byte_of q.piece.bytes k (find (covers k) hs))) same;
}

-- one piece more, with the RELA sections that relocate it
module _ (r : Referrer) (image : List ℕ) (left mine others : List KeptRela) (qs : List Placed) (q : Placed) (low : ℕ) (so_far : AreInOrderSoFar r image left qs low) where
  pub order_more :
      left ≡ mine ++ others → All (λ k. k.target ≡ q.piece.section) mine → low ≤ q.piece.section → AreRightHere r (relocations_of r mine) →
      AllPairs EndsBefore (fields_of r mine) → HasFields image (fields_of r mine) (placed_view q) → AreInOrderSoFar r image others (qs ++ q ∷ []) (q.piece.section + 1)
  order_more parts of up right rising has =
      let sections = fields_of_section r q.piece.section mine of in
      let fs = fields_of r so_far.first in
      let gs = fields_of r mine in
      let joined = fields_joined r so_far.first mine in
      let nothing_here = below_it q.piece.section low fs up so_far.fields_below in
      record {
        first = so_far.first ++ mine;
        parts = append_assoc so_far.first mine others ∙ (ap (λ (ks : List KeptRela). so_far.first ++ ks) (sym parts) ∙ so_far.parts);
        are = record {
          right =
              subst (AreRightHere r) (sym (relocations_joined r so_far.first mine))
              (All-append (IsRight (objects_here r) r.bindings.now.places) (relocations_of r so_far.first) (relocations_of r mine) so_far.are.right right);
          rising =
              subst (AllPairs IsBefore) (sym joined)
              (AllPairs-append IsBefore fs gs so_far.are.rising
              (λ i j d ahead within.
              let a = sections i d (omega (arith, ahead, within)) in
              let b = sections j d within in
              inr (a ∙ sym b, rising i j d ahead within))
              (All-weaker (λ (f : Field). f.section < low) (λ f. All (IsBefore f) gs)
              (λ f below. All-weaker (λ (g : Field). g.section ≡ q.piece.section) (IsBefore f) (λ g e. inl (omega (arith, below, up, e))) gs sections) fs so_far.fields_below));
          held =
              subst (λ (hs : List Field). All (λ (p : Placed). HoldsFields image hs (placed_view p)) (qs ++ q ∷ [])) (sym joined)
              (All-append (λ (p : Placed). HoldsFields image (fs ++ gs) (placed_view p)) qs (q ∷ [])
              (λ k d within.
              holds_same image fs (fs ++ gs) (placed_view (get_or qs k d))
              (let below = so_far.pieces_below k d within in
              sym (filter-append (is_of (get_or qs k d).piece.section) fs gs
              ∙ (ap (λ (hs : List Field). filter (is_of (get_or qs k d).piece.section) fs ++ hs) (off_it q.piece.section (get_or qs k d).piece.section gs (omega (arith, below, up)) sections)
              ∙ append-nil (filter (is_of (get_or qs k d).piece.section) fs))))
              (so_far.are.held k d within))
              (All-cons (λ (p : Placed). HoldsFields image (fs ++ gs) (placed_view p)) q []
              (record {
                bytes = λ k below. has.bytes k below
                    ∙ ap (λ (hs : List Field). Some (byte_of q.piece.bytes.now k (find (covers k) hs)))
                    (sym (filter-append (is_of q.piece.section) fs gs ∙ ap₂ ◌++◌ nothing_here (of_it q.piece.section gs sections)));
              })
              (All-nil (λ (p : Placed). HoldsFields image (fs ++ gs) (placed_view p)))));
        };
        fields_below =
            subst (All (λ (f : Field). f.section < q.piece.section + 1)) (sym joined)
            (All-append (λ (f : Field). f.section < q.piece.section + 1) fs gs
            (All-weaker (λ (f : Field). f.section < low) (λ f. f.section < q.piece.section + 1) (λ f below. omega (arith, below, up)) fs so_far.fields_below)
            (All-weaker (λ (f : Field). f.section ≡ q.piece.section) (λ f. f.section < q.piece.section + 1) (λ f e. omega (arith, e)) gs sections));
        pieces_below =
            All-append (λ (p : Placed). p.piece.section < q.piece.section + 1) qs (q ∷ [])
            (All-weaker (λ (p : Placed). p.piece.section < low) (λ p. p.piece.section < q.piece.section + 1) (λ p below. omega (arith, below, up)) qs so_far.pieces_below)
            (All-cons (λ (p : Placed). p.piece.section < q.piece.section + 1) q [] (omega arith) (All-nil (λ (p : Placed). p.piece.section < q.piece.section + 1)));
      }

-- the first RELA sections of which each relocates a section
pub first_relas :
    (s : ℕ) (ks mine others : List KeptRela) (n : ℕ) → n ≡ prefix_len (λ k. k.target == s) ks → mine ≡ take n ks → others ≡ drop n ks →
    (ks ≡ mine ++ others) × All (λ k. k.target ≡ s) mine
first_relas s ks mine others n count front back = (
  sym (ap₂ ◌++◌ front back ∙ take-append-drop n ks),
  subst (All (λ (k : KeptRela). k.target ≡ s)) (sym front) passes,
)
  where
    passes : All (λ (k : KeptRela). k.target ≡ s) (take n ks)
    passes j d low =
        let long = length-take n ks in
        let below : j < n = omega (arith, low, long) in
        eqb-true (get_or (take n ks) j d).target s
        (ap (λ (k : KeptRela). k.target == s) (get_or-take n ks j d below)
        ∙ prefix_len_passes (λ (k : KeptRela). k.target == s) ks j d (subst (λ (m : ℕ). j < m) count below))

-- pieces of a list, with one more
pub order_next :
    (r : Referrer) (image : List ℕ) (others : List KeptRela) (own : List Placed) (i : ℕ) (d : Placed) (low : ℕ) → i < length own →
    AreInOrderSoFar r image others (take i own ++ get_or own i d ∷ []) low → AreInOrderSoFar r image others (take (i + 1) own) low
order_next r image others own i d low within so_far =
    let e : i + 1 ≡ suc i = omega arith in
    subst (λ (qs : List Placed). AreInOrderSoFar r image others qs low) (sym (rw e (take-suc own i d within))) so_far

pub order_none : (r : Referrer) (image : List ℕ) → AreInOrderSoFar r image (kept_relas (object_here r)) [] 0
order_none r image = record {
  first = [];
  parts = refl;
  are = record {
    right = All-nil (IsRight (objects_here r) r.bindings.now.places);
    rising = λ i j d ahead within. absurd (omega (arith, within));
    held = All-nil (λ (q : Placed). HoldsFields image (fields_of r []) (placed_view q));
  };
  fields_below = All-nil (λ (f : Field). f.section < 0);
  pieces_below = All-nil (λ (q : Placed). q.piece.section < 0);
}

pub order_end :
    (r : Referrer) (image : List ℕ) (left : List KeptRela) (own : List Placed) (i low : ℕ) → length own ≤ i → length left ≡ 0 →
    AreInOrderSoFar r image left (take i own) low → AreInOrder r image (kept_relas (object_here r)) own
order_end r image left own i low past none so_far =
    let whole : so_far.first ≡ kept_relas (object_here r) = sym (append-nil so_far.first) ∙ (ap (λ (ks : List KeptRela). so_far.first ++ ks) (sym (empty left none)) ∙ so_far.parts) in
    subst (λ (ks : List KeptRela). AreInOrder r image ks own) whole
    (subst (λ (qs : List Placed). AreInOrder r image so_far.first qs) (take_all i own past) so_far.are)
  where
    empty : (ks : List KeptRela) → length ks ≡ 0 → ks ≡ []
    empty [] e = refl
    empty (k ∷ ks) e = absurd (omega (arith, e))
