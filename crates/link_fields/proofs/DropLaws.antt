-- The lines of sections that are left out, which come by object and section: what is before a section, and whether it is there.
use Rattle.std.proofs.Common.{◌≡◌, ℕ, ◌<◌, ◌≤◌, ◌⊎◌, inl, inr, true, false, List, length, get_or, sym, ap, subst, ◌∙◌, arith}
use Rattle.std.specs.Prelude.{Any}
use Rattle.std.specs.Bool.{Decides}
use Rattle.std.specs.List.Sorted.{IsPartitionedBy}
use Rattle.std.proofs.lemmas.Bool.{cases_Bool, cases_lt, cases_order, false_from_ne_true, false≢true}
use Rattle.std.proofs.lemmas.Bool.Decides.{Decides-and, Decides-eqb, Decides-ltb, Decides-or}
use Rattle.std.proofs.lemmas.List.Folds.{Any-from_list_any, list_any-from_Any}
use Rattle.elf_model.specs.Image.MapText.{Ascends, DropBefore}
use Rattle.elf_model.specs.declared.link_map.DropLine.{DropLine}
use Rattle.judge_model.specs.Certificates.{is_left_out}
use Rattle.link_fields.specs.Drops.{is_before, is_of}
use Rattle.link_fields.proofs.Rising.{later_in}

abbrev line_of : ℕ → ℕ → DropLine
line_of object section = record { object = object; section = section }

joined : (p q r : DropLine) → DropBefore p q → DropBefore q r → DropBefore p r
joined p q r (inl a) (inl b) = inl (omega (arith, a, b))
joined p q r (inl a) (inr b) = inl (let e = b.0 in omega (arith, a, e))
joined p q r (inr a) (inl b) = inl (let e = a.0 in omega (arith, b, e))
joined p q r (inr a) (inr b) = inr (a.0 ∙ b.0, let m = a.1 in let n = b.1 in omega (arith, m, n))

-- lines that stand apart are before each other
later_line : (ds : List DropLine) → Ascends DropBefore ds → (i j : ℕ) (d : DropLine) → i < j → j < length ds → DropBefore (get_or ds i d) (get_or ds j d)
later_line ds up i j d order within = later_in DropBefore joined ds up i j d order within

module _ (object section : ℕ) where
  decides_before : (d : DropLine) → Decides (is_before object section d) (DropBefore d (line_of object section))
  decides_before d = Decides-or _ _ (Decides-ltb d.object object) (Decides-and _ _ (Decides-eqb d.object object) (Decides-ltb d.section section))

  decides_of : (d : DropLine) → Decides (is_of object section d) ((d.object ≡ object) × (d.section ≡ section))
  decides_of d = Decides-and _ _ (Decides-eqb d.object object) (Decides-eqb d.section section)

  pub parted : (ds : List DropLine) → Ascends DropBefore ds → IsPartitionedBy (is_before object section) ds
  parted ds up i j d order within before = by (cases_lt i j)
    where
      by : (i < j) ⊎ (j ≤ i) → is_before object section (get_or ds i d) ≡ true
      by (inl earlier) =
          (decides_before (get_or ds i d)).1
          (joined (get_or ds i d) (get_or ds j d) (line_of object section) (later_line ds up i j d earlier within) ((decides_before (get_or ds j d)).0 before))
      by (inr same_place) =
          let e : j ≡ i = omega (arith, order, same_place) in
          subst (λ (k : ℕ). is_before object section (get_or ds k d) ≡ true) e before

  module _ (ds : List DropLine) (up : Ascends DropBefore ds) (i : ℕ) (before : (k : ℕ) (d : DropLine) → k < i → is_before object section (get_or ds k d) ≡ true) (behind : (k : ℕ) (d : DropLine) → i ≤ k → k < length ds → is_before object section (get_or ds k d) ≡ false) where
    abbrev Here : DropLine → Type 0
    Here d = is_of object section d ≡ true

    never_before : (k : ℕ) (d : DropLine) → k < i → get_or ds k d ≡ d → Here d → ⊥
    never_before k d low is here =
        let at = (decides_of d).0 here in
        by ((decides_before (get_or ds k d)).0 (before k d low))
        (ap (λ (e : DropLine). e.object) is ∙ at.0) (ap (λ (e : DropLine). e.section) is ∙ at.1)
      where
        by : DropBefore (get_or ds k d) (line_of object section) → (get_or ds k d).object ≡ object → (get_or ds k d).section ≡ section → ⊥
        by (inl less) e f = omega (arith, less, e)
        by (inr less) e f = let l = less.1 in omega (arith, l, f)

    pub none_left : length ds ≤ i → is_left_out ds object section ≡ false
    none_left end = false_from_ne_true (is_left_out ds object section) (λ out. never (Any-from_list_any (is_of object section) ds out))
      where
        never : Any (λ d. is_of object section d ≡ true) ds → ⊥
        never (k, d, low, is, here) = never_before k d (omega (arith, low, end)) is here

    pub told_by : (line : DropLine) → i < length ds → ((d : DropLine) → line ≡ get_or ds i d) → is_of object section line ≡ is_left_out ds object section
    told_by line low is = by (cases_Bool (is_of object section line))
      where
        never : is_of object section line ≡ false → Any (λ d. is_of object section d ≡ true) ds → ⊥
        never other (k, d, within, at, here) = part (cases_order k i)
          where
            moved : (p q : DropLine) → q.object ≡ object → q.section ≡ section → DropBefore p q → DropBefore p (line_of object section)
            moved p q e f (inl less) = inl (omega (arith, less, e))
            moved p q e f (inr less) = inr (less.0 ∙ e, let l = less.1 in omega (arith, l, f))

            part : (k ≡ i) ⊎ ((k < i) ⊎ (i < k)) → ⊥
            part (inl same_place) =
                let e : line ≡ d = is d ∙ (ap (λ (j : ℕ). get_or ds j d) (sym same_place) ∙ at) in
                false≢true (sym other ∙ (ap (is_of object section) e ∙ here))
            part (inr (inl early)) = never_before k d early at here
            part (inr (inr late)) =
                let there = (decides_of d).0 here in
                let later = subst (DropBefore (get_or ds i d)) at (later_line ds up i k d late within) in
                false≢true (sym (behind i d (omega arith) low) ∙ (decides_before (get_or ds i d)).1 (moved (get_or ds i d) d there.0 there.1 later))

        by : (is_of object section line ≡ true) ⊎ (is_of object section line ≡ false) → is_of object section line ≡ is_left_out ds object section
        by (inl here) = here ∙ sym (list_any-from_Any (is_of object section) ds (i, line, low, sym (is line), here))
        by (inr other) = other ∙ sym (false_from_ne_true (is_left_out ds object section) (λ out. never other (Any-from_list_any (is_of object section) ds out)))
