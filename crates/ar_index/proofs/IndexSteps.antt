-- The first entries of an index, and one more.
use Rattle.std.proofs.Common.{◌≡◌, ℕ, suc, ◌+◌, ◌*◌, ◌-◌, ◌<◌, ◌≤◌, List, [], ◌∷◌, ◌++◌, length, drop, get_or, ap, ◌∙◌, sym, subst, arith}
use Rattle.std.specs.Prelude.{All}
use Rattle.std.proofs.Math.Nat.{mul-suc}
use Rattle.std.proofs.lemmas.List.{append_assoc, append-nil, drop-drop, get_or_default}
use Rattle.byteview.specs.Numbers.{HasText, be_at, text}
use Rattle.elf_model.specs.Inputs.ArchiveFile.{AreTexts, IndexEntry, after_text, entries_from}
use Rattle.elf_model.proofs.Rests.{Left}

-- the first i of count entries were read, and the rest of the strings is left
pub record AreReadSoFar (w : ℕ) (index : List ℕ) (count i : ℕ) (entries : List IndexEntry) (rest : List ℕ) : Type 0 where
  pub all : entries ++ entries_from (count - i) w (drop (w + w * i) index) rest ≡ entries_from count w (drop w index) (drop (w + w * count) index)
  pub texts : Left (AreTexts count (drop (w + w * count) index)) (AreTexts (count - i) rest)

same_texts : (n count : ℕ) (rest strings : List ℕ) → n ≡ count → rest ≡ strings → Left (AreTexts count strings) (AreTexts n rest)
same_texts n count rest strings e f =
    let same : AreTexts n rest ≡ AreTexts count strings = (λ j. AreTexts (e j) (f j)) in
    (λ q. subst (λ (X : Type 0). X) (sym same) q, λ r. subst (λ (X : Type 0). X) same r)

pub none_read : (w : ℕ) (index : List ℕ) (count : ℕ) (entries : List IndexEntry) (rest : List ℕ) → entries ≡ [] → rest ≡ drop (w + w * count) index
    → AreReadSoFar w index count 0 entries rest
none_read w index count entries rest none rest_is =
    let all : count - 0 ≡ count = omega arith in
    let first : w + w * 0 ≡ w = omega arith in
    record {
      all = (λ j. none j ++ entries_from (all j) w (drop (first j) index) (rest_is j));
      texts = same_texts (count - 0) count rest (drop (w + w * count) index) all rest_is;
    }

-- one entry more
entries_more : (n m w : ℕ) (numbers strings : List ℕ) → n ≡ suc m
    → entries_from n w numbers strings ≡ record { name = text strings 0; offset = be_at w numbers 0 } ∷ entries_from m w (drop w numbers) (after_text strings)
entries_more n m w numbers strings e = ap (λ (k : ℕ). entries_from k w numbers strings) e

module _ (w : ℕ) (index : List ℕ) (count i : ℕ) (entries : List IndexEntry) (rest : List ℕ) (below : i < count) (so_far : AreReadSoFar w index count i entries rest) where
  less : count - i ≡ suc (count - (i + 1))
  less = omega (arith, below)

  pub read_more : (now : List IndexEntry) (e : IndexEntry) (after : List ℕ) → HasText rest 0 → e.name ≡ text rest 0 → e.offset ≡ be_at w index (w + w * i)
      → after ≡ after_text rest → now ≡ entries ++ e ∷ [] → AreReadSoFar w index count (i + 1) now after
  read_more now e after has name_is offset_is after_is now_is =
      let numbers : drop w (drop (w + w * i) index) ≡ drop (w + w * (i + 1)) index =
      drop-drop w (w + w * i) index ∙ ap (λ (n : ℕ). drop n index) (let next : i + 1 ≡ suc i = omega arith in let more : w * (i + 1) ≡ w * i + w = ap (λ (n : ℕ). w * n) next ∙ mul-suc w i in omega (arith, more))
      in
      let entry_is : e ≡ record { name = text rest 0; offset = be_at w (drop (w + w * i) index) 0 } = (λ j. record { name = name_is j; offset = offset_is j }) in
      record {
        all =
            (λ j. now_is j ++ entries_from (count - (i + 1)) w (sym numbers j) (after_is j))
            ∙ append_assoc entries (e ∷ []) (entries_from (count - (i + 1)) w (drop w (drop (w + w * i) index)) (after_text rest))
            ∙ (λ j. entries ++ (entry_is j ∷ entries_from (count - (i + 1)) w (drop w (drop (w + w * i) index)) (after_text rest)))
            ∙ ap (λ (es : List IndexEntry). entries ++ es) (sym (entries_more (count - i) (count - (i + 1)) w (drop (w + w * i) index) rest less))
            ∙ so_far.all;
        texts = (
          λ q. subst (AreTexts (count - (i + 1))) (sym after_is) (subst (λ (n : ℕ). AreTexts n rest) less (so_far.texts.0 q)).1,
          λ r. so_far.texts.1 (subst (λ (n : ℕ). AreTexts n rest) (sym less) (has, subst (AreTexts (count - (i + 1))) after_is r)),
        );
      }

  -- no text is left where one is asked for
  pub text_missing : (HasText rest 0 → ⊥) → AreTexts count (drop (w + w * count) index) → ⊥
  text_missing never q = never (subst (λ (n : ℕ). AreTexts n rest) less (so_far.texts.0 q)).0

module _ (w : ℕ) (index : List ℕ) (count i : ℕ) (entries : List IndexEntry) (rest : List ℕ) (past : count ≤ i) (so_far : AreReadSoFar w index count i entries rest) where
  none_left : count - i ≡ 0
  none_left = omega (arith, past)

  pub all_read : entries ≡ entries_from count w (drop w index) (drop (w + w * count) index)
  all_read =
      sym (append-nil entries) ∙ ap (λ (n : ℕ). entries ++ entries_from n w (drop (w + w * i) index) rest) (sym none_left) ∙ so_far.all

  pub zeros_left : All (λ b. b ≡ 0) rest → AreTexts count (drop (w + w * count) index)
  zeros_left zeros = so_far.texts.1 (subst (λ (n : ℕ). AreTexts n rest) (sym none_left) zeros)

  pub others_left : (All (λ b. b ≡ 0) rest → ⊥) → AreTexts count (drop (w + w * count) index) → ⊥
  others_left never q = never (subst (λ (n : ℕ). AreTexts n rest) none_left (so_far.texts.0 q))

-- zero bytes, by their places
pub zeros_by_place : (xs : List ℕ) → ((k : ℕ) → k < length xs → get_or xs k 0 ≡ 0) → All (λ b. b ≡ 0) xs
zeros_by_place xs each k d within = get_or_default xs k d 0 within ∙ each k within
