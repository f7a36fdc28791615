-- Text put behind what is told, line by line.
use Rattle.std.proofs.Common.{◌≡◌, ◌∙◌, ℕ, List, [], ◌++◌, ap, append_assoc, subst, sym}
use Rattle.std.specs.Prelude.{Option, None, Some}
use Rattle.std.specs.Io.KnownBytes.{Appends, append_known}
use Rattle.std.proofs.lemmas.List.{append-nil}

pub nothing_put : (a : Option (List ℕ)) → Appends a a []
nothing_put None = tt
nothing_put (Some xs) = sym (append-nil xs)

pub both_put : (a b c : Option (List ℕ)) (xs ys : List ℕ) → Appends a b xs → Appends b c ys → Appends a c (xs ++ ys)
both_put None b c xs ys e f = tt
both_put (Some x) None c xs ys e f = absurd e
both_put (Some x) (Some y) None xs ys e f = absurd f
both_put (Some x) (Some y) (Some z) xs ys e f = f ∙ (ap (λ (w : List ℕ). w ++ ys) e ∙ append_assoc x xs ys)

-- with what is left to be put behind what there is now, all is put behind what there was
abbrev pub Leads : Option (List ℕ) → List ℕ → Option (List ℕ) → List ℕ → Type 0
Leads start whole now rest = (end : Option (List ℕ)) → Appends now end rest → Appends start end whole

-- a part of what is left is put
pub part_put :
    (start now next : Option (List ℕ)) (whole part rest left : List ℕ) →
    Leads start whole now left → left ≡ part ++ rest → Appends now next part → Leads start whole next rest
part_put start now next whole part rest left leads same put end back =
    leads end (subst (Appends now end) (sym same) (both_put now next end part rest put back))

-- nothing is left
pub all_put : (start now : Option (List ℕ)) (whole : List ℕ) → Leads start whole now [] → Appends start now whole
all_put start now whole leads = leads now (nothing_put now)

-- bytes that were gathered are behind those that a writer holds
pub gathered : (a : Option (List ℕ)) (run line : List ℕ) → Appends (append_known a run) (append_known a (run ++ line)) line
gathered None run line = tt
gathered (Some xs) run line = sym (append_assoc xs run line)

pub run_written : (a b : Option (List ℕ)) (run : List ℕ) → Appends a b run → Appends (append_known a run) (append_known b []) []
run_written None b run e = tt
run_written (Some xs) None run e = absurd e
run_written (Some xs) (Some ys) run e = ap (λ (w : List ℕ). w ++ []) (e)
