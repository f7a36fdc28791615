-- Records of a list rise: which of them begins at an offset, and which has bytes.
use Rattle.std.proofs.Common.{◌≡◌, ◌==◌, ◌⊎◌, inl, inr, Bool, true, false, cond, ℕ, zero, suc, ◌+◌, ◌-◌, ◌^◌, ◌<◌, ◌≤◌, List, [], ◌∷◌, Option, None, Some, ap, drop, get_or, length, refl, subst, sym, ◌∙◌, arith}
use Rattle.std.specs.Prelude.{◌↔◌, ◌&&◌, All, AllPairs, Contains, IsTrue, find, nat_le, nat_lt, option_map, unwrap_or}
use Rattle.std.proofs.lemmas.Bool.{cases_order, eq-eqb, eqb-true, false≢true, leb-true}
use Rattle.std.proofs.lemmas.List.{get_or_default}
use Rattle.std.proofs.lemmas.List.Elements.{All-cons, All-contains, All-nil, All-weaker}
use Rattle.std.proofs.lemmas.List.Kept.{AllPairs-cons}
use Rattle.std.proofs.lemmas.Option.{none-some, same_Some}
use Rattle.elf_model.proofs.Finding.{Any-from_contains, find-found, none-passes}
use Rattle.elf_model.proofs.Pairs.{AllPairs-nil}
use Rattle.byteview.specs.Numbers.{le_at}
use Rattle.call_frames.specs.Order.{AreInOrder, IsPlaced, IsRecordBefore}
use Rattle.judge_model.specs.Frames.{HasCommon, IsCommonOf, are_zeros, frame_records, is_whole_record, record_at, records_from, records_of}
use Rattle.judge_model.specs.declared.frame_record.FrameRecord.{FrameRecord}

-- a record is whole
whole_parts : (size end len : ℕ) → (nat_le 8 size && (nat_lt size (2 ^ 32) && nat_le end len)) ≡ true → (8 ≤ size) × (end ≤ len)
whole_parts size end len e = by (nat_le 8 size) (nat_lt size (2 ^ 32)) (nat_le end len) refl refl e
  where
    by : (a b c : Bool) → nat_le 8 size ≡ a → nat_le end len ≡ c → (a && (b && c)) ≡ true → (8 ≤ size) × (end ≤ len)
    by true true true ea ec both = (leb-true 8 size ea, leb-true end len ec)
    by true true false ea ec both = absurd (false≢true both)
    by true false c ea ec both = absurd (false≢true both)
    by false b c ea ec both = absurd (false≢true both)

pub whole_placed : (bytes : List ℕ) (r : FrameRecord) → is_whole_record bytes r ≡ true → IsPlaced (length bytes) r
whole_placed bytes r e =
    let parts = whole_parts r.size (r.offset + r.size) (length bytes) e in
    record { large = parts.0; inside = parts.1 }

-- records from one offset on
record IsChain (len at : ℕ) (rs : List FrameRecord) : Type 0 where
  placed : All (IsPlaced len) rs
  rising : AllPairs IsRecordBefore rs
  behind : All (λ r. at ≤ r.offset) rs

no_chain : (len at : ℕ) → IsChain len at []
no_chain len at = record {
  placed = All-nil (IsPlaced len);
  rising = AllPairs-nil IsRecordBefore;
  behind = All-nil (λ (r : FrameRecord). at ≤ r.offset);
}

chain_more :
    (len at : ℕ) (r : FrameRecord) (rs : List FrameRecord) → r.offset ≡ at → IsPlaced len r → IsChain len (at + r.size) rs → IsChain len at (r ∷ rs)
chain_more len at r rs here placed more = record {
  placed = All-cons (IsPlaced len) r rs placed more.placed;
  rising =
      AllPairs-cons IsRecordBefore r rs
      (All-weaker (λ (s : FrameRecord). at + r.size ≤ s.offset) (IsRecordBefore r) (λ s h. omega (arith, here, h)) rs more.behind) more.rising;
  behind =
      All-cons (λ (s : FrameRecord). at ≤ s.offset) r rs (omega (arith, here))
      (All-weaker (λ (s : FrameRecord). at + r.size ≤ s.offset) (λ s. at ≤ s.offset) (λ s h. omega (arith, h)) rs more.behind);
}

chain_step :
    (len at : ℕ) (r : FrameRecord) (rs : List FrameRecord) (b z w : Bool) (o : Option (List FrameRecord)) → r.offset ≡ at →
    (w ≡ true → IsPlaced len r) → ((ts : List FrameRecord) → o ≡ Some ts → IsChain len (at + r.size) ts) →
    cond b (cond z (Some []) None) (cond w (option_map (λ rs. r ∷ rs) o) None) ≡ Some rs → IsChain len at rs
chain_step len at r rs true true w o here whole more e = subst (IsChain len at) (same_Some [] rs e) (no_chain len at)
chain_step len at r rs true false w o here whole more e = absurd (none-some rs e)
chain_step len at r rs false z false o here whole more e = absurd (none-some rs e)
chain_step len at r rs false z true None here whole more e = absurd (none-some rs e)
chain_step len at r rs false z true (Some ts) here whole more e =
    subst (IsChain len at) (same_Some (r ∷ ts) rs e) (chain_more len at r ts here (whole refl) (more ts refl))

chained : (n : ℕ) (bytes : List ℕ) (at : ℕ) (rs : List FrameRecord) → records_from n bytes at ≡ Some rs → IsChain (length bytes) at rs
unfolding records_from
chained zero bytes at rs e = absurd (none-some rs e)
chained (suc n) bytes at rs e =
    chain_step (length bytes) at (record_at bytes at) rs (le_at 4 bytes at == 0) (are_zeros (drop at bytes)) (is_whole_record bytes (record_at bytes at))
    (records_from n bytes (at + (record_at bytes at).size)) refl (whole_placed bytes (record_at bytes at))
    (λ ts is. chained n bytes (at + (record_at bytes at).size) ts is) e

-- the records of bytes, which are none where these are no list
pub in_order : (bytes : List ℕ) → AreInOrder (length bytes) (records_of bytes)
in_order bytes = by (frame_records bytes) refl
  where
    of_chain : (at : ℕ) (rs : List FrameRecord) → IsChain (length bytes) at rs → AreInOrder (length bytes) rs
    of_chain at rs chain = record { placed = chain.placed; rising = chain.rising }

    by : (o : Option (List FrameRecord)) → frame_records bytes ≡ o → AreInOrder (length bytes) (unwrap_or o [])
    by None e = of_chain 0 [] (no_chain (length bytes) 0)
    by (Some rs) e = of_chain 0 rs (chained (1 + length bytes) bytes 0 rs e)

module _ (len : ℕ) (rs : List FrameRecord) (order : AreInOrder len rs) where
  pub placed_in : (r : FrameRecord) → Contains rs r → IsPlaced len r
  placed_in r has = All-contains (IsPlaced len) rs r order.placed has

  -- of two records at two places
  ends_before : (a b : FrameRecord) (i j : ℕ) → get_or rs i a ≡ a → get_or rs j b ≡ b → i < j → j < length rs → a.offset + a.size ≤ b.offset
  ends_before a b i j at_i at_j less low =
      subst (λ (y : FrameRecord). a.offset + a.size ≤ y.offset) (get_or_default rs j a b low ∙ at_j)
      (subst (λ (x : FrameRecord). x.offset + x.size ≤ (get_or rs j a).offset) at_i (order.rising i j a less low))

  only_one : (a b : FrameRecord) → Contains rs a → Contains rs b → a.offset ≡ b.offset → a ≡ b
  only_one a b (i, low_i, at_i) (j, low_j, at_j) same = by (cases_order i j)
    where
      large_a : 8 ≤ a.size
      large_a = (placed_in a (i, low_i, at_i)).large

      large_b : 8 ≤ b.size
      large_b = (placed_in b (j, low_j, at_j)).large

      by : (i ≡ j) ⊎ ((i < j) ⊎ (j < i)) → a ≡ b
      by (inl e) = sym at_i ∙ (get_or_default rs i a b low_i ∙ (ap (λ (k : ℕ). get_or rs k b) e ∙ at_j))
      by (inr (inl less)) =
          absurd (let h = ends_before a b i j at_i at_j less low_j in let l = large_a in omega (arith, h, l, same))
      by (inr (inr more)) =
          absurd (let h = ends_before b a j i at_j at_i more low_i in let l = large_b in omega (arith, h, l, same))

  -- the record that begins at an offset is found
  pub found_there : (x : ℕ) (c : FrameRecord) → Contains rs c → c.offset ≡ x → find (λ r. r.offset == x) rs ≡ Some c
  found_there x c has here = by (find (λ r. r.offset == x) rs) refl
    where
      by : (o : Option FrameRecord) → find (λ r. r.offset == x) rs ≡ o → o ≡ Some c
      by None e =
          absurd (false≢true (sym (All-contains (λ (r : FrameRecord). (r.offset == x) ≡ false) rs c (none-passes (λ r. r.offset == x) rs e) has) ∙ eq-eqb c.offset x here))
      by (Some y) e =
          let f = find-found (λ (r : FrameRecord). r.offset == x) rs y e in
          ap Some (only_one y c f.there has (eqb-true y.offset x f.passes ∙ sym here))

  -- the first record at or behind an offset
  module _ (x i : ℕ) (below : (k : ℕ) (d : FrameRecord) → k < i → (get_or rs k d).offset < x) (not_below : (k : ℕ) (d : FrameRecord) → i ≤ k → k < length rs → x ≤ (get_or rs k d).offset) where
    nowhere :
        (y : FrameRecord) (k : ℕ) → k < length rs → get_or rs k y ≡ y → y.offset ≡ x →
        ((c : FrameRecord) → i < length rs → get_or rs i c ≡ c → c.offset ≡ x → ⊥) → ⊥
    nowhere y k low at_k here never = by (cases_order k i)
      where
        by : (k ≡ i) ⊎ ((k < i) ⊎ (i < k)) → ⊥
        by (inl same) = never y (omega (arith, same, low)) (ap (λ (j : ℕ). get_or rs j y) (sym same) ∙ at_k) here
        by (inr (inl less)) =
            let h = subst (λ (r : FrameRecord). r.offset < x) at_k (below k y less) in omega (arith, h, here)
        by (inr (inr more)) =
            let between : i < length rs = omega (arith, more, low) in
            let first = not_below i y (omega arith) between in
            let later = subst (λ (r : FrameRecord). (get_or rs i y).offset + (get_or rs i y).size ≤ r.offset) at_k (order.rising i k y more low) in
            let large = (order.placed i y between).large in
            omega (arith, first, later, large, here)

    none_else : (o : Option FrameRecord) → find (λ r. r.offset == x) rs ≡ o → ((c : FrameRecord) → i < length rs → get_or rs i c ≡ c → c.offset ≡ x → ⊥) → None ≡ o
    none_else None e never = refl
    none_else (Some y) e never =
        let f = find-found (λ (r : FrameRecord). r.offset == x) rs y e in
        absurd (nowhere y f.there.0 f.there.1 f.there.2 (eqb-true y.offset x f.passes) never)

    pub found_none : length rs ≤ i → None ≡ find (λ r. r.offset == x) rs
    found_none end = none_else (find (λ r. r.offset == x) rs) refl (λ c low is here. omega (arith, low, end))

    pub found_other : (d : FrameRecord) → i < length rs → ¬ ((get_or rs i d).offset ≡ x) → None ≡ find (λ r. r.offset == x) rs
    found_other d low other =
        none_else (find (λ r. r.offset == x) rs) refl
        (λ c low is here. other (ap (λ (r : FrameRecord). r.offset) (get_or_default rs i d c low ∙ is) ∙ here))

  -- the common part that is found at its offset, and none
  module _ (r : FrameRecord) (some : ¬ (r.id ≡ 0)) (within : r.id ≤ r.offset + 4) where
    pub common_found : (c : FrameRecord) → Some c ≡ find (λ s. s.offset == (r.offset + 4 - r.id)) rs → IsTrue (c.id == 0) ↔ HasCommon rs r
    common_found c e = (there, back)
      where
        there : IsTrue (c.id == 0) → HasCommon rs r
        there none =
            let f = find-found (λ (s : FrameRecord). s.offset == (r.offset + 4 - r.id)) rs c (sym e) in
            let at = eqb-true c.offset (r.offset + 4 - r.id) f.passes in
            inr (Any-from_contains (IsCommonOf r) rs c f.there (eqb-true c.id 0 none, omega (arith, at, within)))

        back : HasCommon rs r → IsTrue (c.id == 0)
        back (inl none) = absurd (some none)
        back (inr (k, d, low, at, is)) =
            let at_d = is.1 in
            let found = found_there (r.offset + 4 - r.id) d (k, low, at) (omega (arith, at_d, within)) in
            let same : c ≡ d = same_Some c d (e ∙ found) in
            eq-eqb c.id 0 (ap (λ (s : FrameRecord). s.id) same ∙ is.0)

    pub common_none : None ≡ find (λ s. s.offset == (r.offset + 4 - r.id)) rs → HasCommon rs r → ⊥
    common_none e (inl none) = some none
    common_none e (inr (k, d, low, at, is)) =
        let at_d = is.1 in
        none-some d (e ∙ found_there (r.offset + 4 - r.id) d (k, low, at) (omega (arith, at_d, within)))
