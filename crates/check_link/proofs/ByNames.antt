-- A table by names with the values of two names at hand: what is known of each name when a value changes, or another name comes.
use Rattle.std.proofs.Common.{◌≡◌, ℕ, Bool, true, false, cond, List, Option, refl, sym, ap, ◌∙◌}
use Rattle.std.specs.Str.{bytes_eq}
use Rattle.std.proofs.lemmas.Slice.Eq.{bytes_eq-Decides}
use Rattle.check_link.specs.ByName.{known, known_below, over}
use Rattle.check_link.specs.declared.by_name.ByName.{ByName}

module _ {V : Type 0} (f : List ℕ → Option V) (name : List ℕ) (v : Option V) where
  -- where the value of a name is what is known anyway, it changes nothing
  pub no_change : (n : List ℕ) → f name ≡ v → over name v f n ≡ f n
  no_change n e = by (bytes_eq name n) refl
    where
      by : (b : Bool) → bytes_eq name n ≡ b → cond b v (f n) ≡ f n
      by true same = sym e ∙ ap f ((bytes_eq-Decides name n).0 same)
      by false same = refl

  -- what is known of the name itself
  pub at_name : over name v f name ≡ v
  at_name = ap (λ (b : Bool). cond b v (f name)) ((bytes_eq-Decides name name).1 refl)

  -- what was known of the name does not matter once it has another value
  pub over_old : (w : Option V) (n : List ℕ) → over name w (over name v f) n ≡ over name w f n
  over_old w n = by (bytes_eq name n)
    where
      by : (b : Bool) → cond b w (cond b v (f n)) ≡ cond b w (f n)
      by true = refl
      by false = refl

-- A table that has turned to a name, with all that was known.
module _ {V : Type 0} (old turned : ByName V) (same : (n : List ℕ) → known turned n ≡ known old n) where
  -- at hand is what was known of the name
  pub value_known : turned.value ≡ known old turned.name.now
  value_known = sym (at_name (known_below turned) turned.name.now turned.value) ∙ same turned.name.now

  -- with another value at hand all else stays as it was
  pub put_over : (w : Option V) (n : List ℕ) → over turned.name.now w (known_below turned) n ≡ over turned.name.now w (known old) n
  put_over w n =
      sym (over_old (known_below turned) turned.name.now turned.value w n)
      ∙ ap (λ (o : Option V). cond (bytes_eq turned.name.now n) w o) (same n)
