-- What std says of texts, in the words of the command's definitions.
use Rattle.std.proofs.Common.{◌≡◌, ℕ, ◌+◌, true, false, List, length, drop, Option, Some, None, MatchOption, refl, ap, ◌∙◌, sym, subst}
use Rattle.std.specs.Borrow.{Bor}
use Rattle.std.specs.List.{starts_with}
use Rattle.std.specs.Option.{option_copied}
use Rattle.std.specs.Str.{IsCharBoundary}
use Rattle.std.specs.Str.Pattern.{FindsTextPrefix}
use Rattle.std.proofs.lemmas.Str.Pattern.{starts_text}
use Rattle.std.proofs.Common.{eqb}
use Rattle.elf_model.specs.Inputs.Command.{after}

pub after_is : (text word : List ℕ) (r : Option (Bor (List ℕ))) → MatchOption r (FindsTextPrefix text word None) (λ x. (n : ℕ) × FindsTextPrefix text word (Some n) × (x.now ≡ drop n word) × (length x.now + n ≡ length word)) → option_copied r ≡ after text word
after_is text word None h =
    let e : false ≡ starts_with eqb word text = starts_text false text word h in
    rw (← e) refl
after_is text word (Some x) h =
    let e : true ≡ starts_with eqb word text = starts_text true text word (h.0, h.1, subst (λ k. IsCharBoundary word k) (sym h.1.0) h.1.2) in
    rw (← e) (ap Some (h.2 ∙ ap (λ k. drop k word) h.1.0))
