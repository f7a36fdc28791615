-- The parts of a name of C++, joined.
use Rattle.std.proofs.Common.{◌≡◌, ◌∙◌, ℕ, List, ◌++◌, Option, None, Some, length, take, drop, ap, sym, rules}
use Rattle.std.specs.Prelude.{IfSome, MatchOption, codes, decimal}
use Rattle.std.proofs.lemmas.List.{take-append-drop}

pub if_some : {T : Type 0} (Q : Type 0) (P : T → Type 0) (r : Option T) → MatchOption r Q P → IfSome r P
if_some Q P None h = search rules
if_some Q P (Some x) h = h

pub spelled : (mangled rest digits names name parameters : List ℕ) (len : ℕ) → mangled ≡ codes "_Z" ++ rest → rest ≡ digits ++ names
    → digits ≡ decimal len → name ≡ take len names → parameters ≡ drop len names → length name ≡ len
    → mangled ≡ codes "_Z" ++ (decimal (length name) ++ (name ++ parameters))
spelled mangled rest digits names name parameters len first second third is behind count =
    let number : digits ≡ decimal (length name) = third ∙ ap decimal (sym count) in
    let parts : names ≡ name ++ parameters = sym (take-append-drop len names) ∙ (λ k. sym is k ++ sym behind k) in
    first ∙ ap (λ (r : List ℕ). codes "_Z" ++ r) (second ∙ (λ k. number k ++ parts k))
