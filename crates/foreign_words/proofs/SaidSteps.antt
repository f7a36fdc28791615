-- What words say, with what one more says.
use Rattle.std.proofs.Common.{◌≡◌, ◌∙◌, ◌++◌, ◌∷◌, [], List, None, Option, Some, ap, append_assoc, refl, sym}
use Rattle.std.proofs.lemmas.List.{map-append}
use Rattle.judge_model.specs.Words.{Says, in_front}
use Rattle.foreign_words.specs.Said.{with_said}
use Rattle.foreign_words.specs.Says.{says_view, says_views}
use Rattle.foreign_words.specs.declared.says.Says as code

with_one : (front : List Says) (s : Says) (rest : Option (List Says)) → with_said (front ++ s ∷ []) rest ≡ with_said front (in_front (Some s) rest)
with_one front s None = refl
with_one front s (Some ss) = ap Some (append_assoc front (s ∷ []) ss)

pub one_more :
    (old new : List code.Says) (s : code.Says) (rest before all : Option (List Says)) → new ≡ old ++ s ∷ [] →
    before ≡ in_front (Some (says_view s)) rest → with_said (says_views old) before ≡ all → with_said (says_views new) rest ≡ all
one_more old new s rest before all is first so_far =
    ap (λ (xs : List code.Says). with_said (says_views xs) rest) is
    ∙ (ap (λ (xs : List Says). with_said xs rest) (map-append says_view old (s ∷ []))
    ∙ (with_one (says_views old) (says_view s) rest
    ∙ (ap (with_said (says_views old)) (sym first) ∙ so_far)))
