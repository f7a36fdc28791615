-- What reading one more record of a list leaves to be read, and bytes that are 0.
use Rattle.std.proofs.Common.{◌≡◌, ◌==◌, Bool, true, false, not, cond, ℕ, zero, suc, ◌+◌, List, [], ◌∷◌, ◌++◌, Option, None, Some, append_assoc, ap, drop, get_or, refl, subst, sym, ◌∙◌, arith}
use Rattle.std.specs.Prelude.{◌↔◌, IsTrue, option_map}
use Rattle.std.specs.List.{list_any}
use Rattle.std.proofs.lemmas.Bool.{eq-eqb, eqb-true, false≢true}
use Rattle.std.proofs.lemmas.List.Folds.{list_any_at}
use Rattle.byteview.specs.Numbers.{le, le_at}
use Rattle.byteview.specs.Runs.{IsAll}
use Rattle.judge_model.specs.Frames.{are_zeros, is_whole_record, record_at, records_from}
use Rattle.judge_model.specs.declared.frame_record.FrameRecord.{FrameRecord}

abbrev is_some_byte : ℕ → Bool
is_some_byte b = not (b == 0)

-- a number is 0 where its bytes are
number_of_zeros : (xs : List ℕ) → IsAll 0 xs → le xs ≡ 0
unfolding le
number_of_zeros [] all = refl
number_of_zeros (b ∷ bs) all =
    let e : b ≡ 0 = all 0 (omega arith) in
    let rest : le bs ≡ 0 = number_of_zeros bs (λ k low. all (suc k) (omega (arith, low))) in
    omega arith

zeros_of_number : (xs : List ℕ) → le xs ≡ 0 → IsAll 0 xs
unfolding le
zeros_of_number [] e k low = absurd (omega (arith, low))
zeros_of_number (b ∷ bs) e zero low = omega (arith, e)
zeros_of_number (b ∷ bs) e (suc k) low = zeros_of_number bs (omega (arith, e)) k (omega (arith, low))

pub number_is_zero : (b : Bool) (xs : List ℕ) → IsTrue b ↔ IsAll 0 xs → IsTrue b ↔ (le xs ≡ 0)
number_is_zero b xs all = (λ t. number_of_zeros xs (all.0 t), λ e. all.1 (zeros_of_number xs e))

-- all bytes are 0
none_of_zeros : (xs : List ℕ) → IsAll 0 xs → list_any is_some_byte xs ≡ false
none_of_zeros [] all = refl
none_of_zeros (b ∷ bs) all =
    let e : b ≡ 0 = all 0 (omega arith) in
    rw e (none_of_zeros bs (λ k low. all (suc k) (omega (arith, low))))

zeros_of_none : (xs : List ℕ) → list_any is_some_byte xs ≡ false → IsAll 0 xs
zeros_of_none xs none k low = by (get_or xs k 0 == 0) refl
  where
    by : (b : Bool) → (get_or xs k 0 == 0) ≡ b → get_or xs k 0 ≡ 0
    by true e = eqb-true (get_or xs k 0) 0 e
    by false e = absurd (false≢true (sym none ∙ list_any_at is_some_byte xs k 0 low (ap not e)))

pub run_is_zeros : (b : Bool) (xs : List ℕ) → IsTrue b ↔ IsAll 0 xs → IsTrue b ↔ (are_zeros xs ≡ true)
run_is_zeros b xs all = (λ t. ap not (none_of_zeros xs (all.0 t)), λ e. all.1 (zeros_of_none xs (not_true (list_any is_some_byte xs) e)))
  where
    not_true : (c : Bool) → not c ≡ true → c ≡ false
    not_true true e = sym e
    not_true false e = refl

-- records that were read, in front of those that are left
abbrev pub with_front : List FrameRecord → Option (List FrameRecord) → Option (List FrameRecord)
with_front front rest = option_map (λ rs. front ++ rs) rest

abbrev step : Bool → Bool → Bool → FrameRecord → Option (List FrameRecord) → Option (List FrameRecord)
step ends zeros whole r rest = cond ends (cond zeros (Some []) None) (cond whole (option_map (λ rs. r ∷ rs) rest) None)

step_is :
    (n : ℕ) (bytes : List ℕ) (at : ℕ) →
    records_from (suc n) bytes at
    ≡ step (le_at 4 bytes at == 0) (are_zeros (drop at bytes)) (is_whole_record bytes (record_at bytes at)) (record_at bytes at)
    (records_from n bytes (at + (record_at bytes at).size))
unfolding records_from
step_is n bytes at = refl

no_more : (front : List FrameRecord) → front ++ [] ≡ front
no_more [] = refl
no_more (r ∷ rs) = ap (λ (ss : List FrameRecord). r ∷ ss) (no_more rs)

one_more : (front : List FrameRecord) (r : FrameRecord) (rest : Option (List FrameRecord)) →
    with_front (front ++ r ∷ []) rest ≡ with_front front (option_map (λ rs. r ∷ rs) rest)
one_more front r None = refl
one_more front r (Some rs) = ap Some (append_assoc front (r ∷ []) rs)

module _ (m n : ℕ) (bytes : List ℕ) (at : ℕ) (front : List FrameRecord) (all : Option (List FrameRecord)) (is : m ≡ suc n) (left : with_front front (records_from m bytes at) ≡ all) where
  stepped :
      (b z w : Bool) → (le_at 4 bytes at == 0) ≡ b → are_zeros (drop at bytes) ≡ z → is_whole_record bytes (record_at bytes at) ≡ w →
      with_front front (step b z w (record_at bytes at) (records_from n bytes (at + (record_at bytes at).size))) ≡ all
  stepped b z w eb ez ew =
      let whole = subst (λ (k : ℕ). with_front front (records_from k bytes at) ≡ all) is left in
      let e = sym (ap (with_front front) (step_is n bytes at)) ∙ whole in
      let r = record_at bytes at in
      let rest = records_from n bytes (at + r.size) in
      subst (λ (x : Bool). with_front front (step b z x r rest) ≡ all) ew
      (subst (λ (x : Bool). with_front front (step b x (is_whole_record bytes r) r rest) ≡ all) ez
      (subst (λ (x : Bool). with_front front (step x (are_zeros (drop at bytes)) (is_whole_record bytes r) r rest) ≡ all) eb e))

  pub read_end : le_at 4 bytes at ≡ 0 → are_zeros (drop at bytes) ≡ true → Some front ≡ all
  read_end none zeros =
      ap Some (sym (no_more front)) ∙ stepped true true (is_whole_record bytes (record_at bytes at)) (eq-eqb (le_at 4 bytes at) 0 none) zeros refl

  pub read_dirty : le_at 4 bytes at ≡ 0 → are_zeros (drop at bytes) ≡ false → None ≡ all
  read_dirty none zeros = stepped true false (is_whole_record bytes (record_at bytes at)) (eq-eqb (le_at 4 bytes at) 0 none) zeros refl

  pub read_broken : (le_at 4 bytes at == 0) ≡ false → is_whole_record bytes (record_at bytes at) ≡ false → None ≡ all
  read_broken some broken = stepped false (are_zeros (drop at bytes)) false some refl broken

  pub read_more :
      (le_at 4 bytes at == 0) ≡ false → is_whole_record bytes (record_at bytes at) ≡ true →
      with_front (front ++ record_at bytes at ∷ []) (records_from n bytes (at + (record_at bytes at).size)) ≡ all
  read_more some whole =
      one_more front (record_at bytes at) (records_from n bytes (at + (record_at bytes at).size))
      ∙ stepped false (are_zeros (drop at bytes)) true some refl whole

pub read_out :
    (m : ℕ) (bytes : List ℕ) (at : ℕ) (front : List FrameRecord) (all : Option (List FrameRecord)) → m ≡ 0 →
    with_front front (records_from m bytes at) ≡ all → None ≡ all
unfolding records_from
read_out m bytes at front all none left = subst (λ (k : ℕ). with_front front (records_from k bytes at) ≡ all) none left

-- a test that is not passed
pub not_true : (b test : Bool) → (test ≡ true → b ≡ true) → b ≡ false → test ≡ false
not_true b true passes fails = absurd (false≢true (sym fails ∙ passes refl))
not_true b false passes fails = refl

pub not_zero : (b : Bool) (n : ℕ) → (n ≡ 0 → b ≡ true) → b ≡ false → (n == 0) ≡ false
not_zero b n passes fails = not_true b (n == 0) (λ e. passes (eqb-true n 0 e)) fails

pub never_true : (b : Bool) → (b ≡ true → ⊥) → b ≡ false
never_true true never = absurd (never refl)
never_true false never = refl
