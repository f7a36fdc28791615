-- The lines of merged strings and constants, which come by object, section and offset: what ends before an offset of a section, and
-- which line has a byte there.
use Rattle.std.proofs.Common.{◌≡◌, ℕ, Bool, ◌+◌, ◌-◌, ◌<◌, ◌≤◌, ◌⊎◌, inl, inr, true, false, List, length, get_or, Option, None, Some, refl, sym, ap, subst, ◌∙◌, arith}
use Rattle.std.specs.Prelude.{cond, find, nat_le, option_map}
use Rattle.std.specs.Bool.{Decides}
use Rattle.std.specs.List.Sorted.{IsPartitionedBy}
use Rattle.std.proofs.lemmas.Bool.{cases_lt, cases_order, false≢true, le-leb, leb-true}
use Rattle.std.proofs.lemmas.Bool.Decides.{Decides-and, Decides-eqb, Decides-ltb, Decides-or}
use Rattle.std.proofs.lemmas.List.Elements.{All-contains}
use Rattle.elf_model.proofs.Finding.{IsFound, find-found, none-passes}
use Rattle.elf_model.specs.Image.MapText.{Ascends}
use Rattle.judge_model.specs.Certificates.{MergedBefore, is_line_with, merged_at}
use Rattle.judge_model.specs.declared.certificate.MergedLine.{MergedLine}
use Rattle.link_fields.specs.MergedLines.{ends_before}
use Rattle.link_fields.proofs.Rising.{later_in}

decides_leb : (a b : ℕ) → Decides (nat_le a b) (a ≤ b)
decides_leb a b = (leb-true a b, le-leb a b)

-- a line of no bytes at an offset of a section: what is before it ends at or before the offset
abbrev line_of : ℕ → ℕ → ℕ → MergedLine
line_of object section offset = record { object = object; section = section; offset = offset; size = 0; address = 0 }

-- two numbers come before two others; then the offsets stand behind each other
abbrev Behind : MergedLine → MergedLine → Type 0
Behind p q = (p.section < q.section) ⊎ ((p.section ≡ q.section) × (p.offset + p.size ≤ q.offset))

joined_behind : (p q r : MergedLine) → Behind p q → Behind q r → Behind p r
joined_behind p q r (inl a) (inl b) = inl (omega (arith, a, b))
joined_behind p q r (inl a) (inr b) = inl (let e = b.0 in omega (arith, a, e))
joined_behind p q r (inr a) (inl b) = inl (let e = a.0 in omega (arith, b, e))
joined_behind p q r (inr a) (inr b) = inr (a.0 ∙ b.0, let m = a.1 in let n = b.1 in omega (arith, m, n))

joined : (p q r : MergedLine) → MergedBefore p q → MergedBefore q r → MergedBefore p r
joined p q r (inl a) (inl b) = inl (omega (arith, a, b))
joined p q r (inl a) (inr b) = inl (let e = b.0 in omega (arith, a, e))
joined p q r (inr a) (inl b) = inl (let e = a.0 in omega (arith, b, e))
joined p q r (inr a) (inr b) = inr (a.0 ∙ b.0, joined_behind p q r a.1 b.1)

later_line :
    (ds : List MergedLine) → Ascends MergedBefore ds → (i j : ℕ) (d : MergedLine) → i < j → j < length ds →
    MergedBefore (get_or ds i d) (get_or ds j d)
later_line ds up i j d order within = later_in MergedBefore joined ds up i j d order within

module _ (object section offset : ℕ) where
  decides_before : (d : MergedLine) → Decides (ends_before object section offset d) (MergedBefore d (line_of object section offset))
  decides_before d =
      Decides-or _ _ (Decides-ltb d.object object)
      (Decides-and _ _ (Decides-eqb d.object object)
      (Decides-or _ _ (Decides-ltb d.section section) (Decides-and _ _ (Decides-eqb d.section section) (decides_leb (d.offset + d.size) offset))))

  -- a line has the byte
  abbrev HasIt : MergedLine → Type 0
  HasIt d = ((d.object ≡ object) × (d.section ≡ section)) × ((d.offset ≤ offset) × (offset < d.offset + d.size))

  pub decides_line : (d : MergedLine) → Decides (is_line_with object section offset d) (HasIt d)
  decides_line d =
      Decides-and _ _ (Decides-and _ _ (Decides-eqb d.object object) (Decides-eqb d.section section))
      (Decides-and _ _ (decides_leb d.offset offset) (Decides-ltb offset (d.offset + d.size)))

  pub parted : (ds : List MergedLine) → Ascends MergedBefore ds → IsPartitionedBy (ends_before object section offset) ds
  parted ds up i j d order within before = by (cases_lt i j)
    where
      by : (i < j) ⊎ (j ≤ i) → ends_before object section offset (get_or ds i d) ≡ true
      by (inl earlier) =
          (decides_before (get_or ds i d)).1
          (joined (get_or ds i d) (get_or ds j d) (line_of object section offset) (later_line ds up i j d earlier within) ((decides_before (get_or ds j d)).0 before))
      by (inr same_place) =
          let e : j ≡ i = omega (arith, order, same_place) in
          subst (λ (k : ℕ). ends_before object section offset (get_or ds k d) ≡ true) e before

  -- what ends before the offset hasn't the byte; nor has what comes behind a line that doesn't end before it
  never_ended : (m : MergedLine) → MergedBefore m (line_of object section offset) → HasIt m → ⊥
  never_ended m (inl less) has = let e = has.0.0 in omega (arith, less, e)
  never_ended m (inr (same, inl less)) has = let e = has.0.1 in omega (arith, less, e)
  never_ended m (inr (same, inr (still, end))) has = let e = has.1.1 in omega (arith, end, e)

  moved : (p q : MergedLine) → HasIt q → MergedBefore p q → MergedBefore p (line_of object section offset)
  moved p q has (inl less) = inl (let e = has.0.0 in omega (arith, less, e))
  moved p q has (inr (same, inl less)) = inr (same ∙ has.0.0, inl (let e = has.0.1 in omega (arith, less, e)))
  moved p q has (inr (same, inr (still, end))) = inr (same ∙ has.0.0, inr (still ∙ has.0.1, let e = has.1.0 in omega (arith, end, e)))

  module _ (ds : List MergedLine) (up : Ascends MergedBefore ds) (i : ℕ) (before : (k : ℕ) (d : MergedLine) → k < i → ends_before object section offset (get_or ds k d) ≡ true) (behind : (k : ℕ) (d : MergedLine) → i ≤ k → k < length ds → ends_before object section offset (get_or ds k d) ≡ false) where
    -- a line that has the byte is the first one that doesn't end before it
    only_here : (k : ℕ) (d : MergedLine) → k < length ds → HasIt (get_or ds k d) → k ≡ i
    only_here k d within has = by (cases_order k i)
      where
        by : (k ≡ i) ⊎ ((k < i) ⊎ (i < k)) → k ≡ i
        by (inl same) = same
        by (inr (inl early)) = absurd (never_ended (get_or ds k d) ((decides_before (get_or ds k d)).0 (before k d early)) has)
        by (inr (inr late)) =
            absurd
            (false≢true
            (sym (behind i d (omega arith) (omega (arith, late, within)))
            ∙ (decides_before (get_or ds i d)).1 (moved (get_or ds i d) (get_or ds k d) has (later_line ds up i k d late within))))

    abbrev Test : MergedLine → Bool
    Test m = is_line_with object section offset m

    abbrev address_in : MergedLine → ℕ
    address_in m = m.address + (offset - m.offset)

    found_at : (x : MergedLine) → IsFound Test ds x → (i < length ds) × (get_or ds i x ≡ x)
    found_at x f =
        let k = f.there.0 in
        let within = f.there.1 in
        let there = f.there.2 in
        let at = only_here k x within (subst HasIt (sym there) ((decides_line x).0 f.passes)) in
        (subst (λ (j : ℕ). j < length ds) at within, ap (λ (j : ℕ). get_or ds j x) (sym at) ∙ there)

    pub found_by : (line : MergedLine) → i < length ds → ((d : MergedLine) → line ≡ get_or ds i d) → cond (Test line) (Some (address_in line)) None ≡ merged_at ds object section offset
    found_by line low is = by (find Test ds) refl
      where
        by : (o : Option MergedLine) → find Test ds ≡ o → cond (Test line) (Some (address_in line)) None ≡ option_map address_in o
        by None none = ap (λ (b : Bool). cond b (Some (address_in line)) None) (All-contains (λ m. Test m ≡ false) ds line (none-passes Test ds none) (i, low, sym (is line)))
        by (Some x) some =
            let f = find-found Test ds x some in
            let same : line ≡ x = is x ∙ (found_at x f).1 in
            ap (λ (b : Bool). cond b (Some (address_in line)) None) (ap Test same ∙ f.passes) ∙ ap (λ (m : MergedLine). Some (address_in m)) same

    pub none_found : length ds ≤ i → merged_at ds object section offset ≡ None
    none_found end = by (find Test ds) refl
      where
        by : (o : Option MergedLine) → find Test ds ≡ o → option_map address_in o ≡ None
        by None none = refl
        by (Some x) some = let f = found_at x (find-found Test ds x some) in let low = f.0 in absurd (omega (arith, low, end))
