use Rattle.std.proofs.Common.{◌≡◌, ◌++◌, List, ℕ}
use Rattle.std.proofs.lemmas.Slice.Eq.{strip_prefix_is}
use Rattle.std.proofs.lemmas.Bool.Decides.{Decides-eqb}
use Rattle.like_names.proofs.Mangled.{if_some}
use Rattle.like_names.proofs.mangling.behind.Goals as goal

pub returns : goal.returns
returns c =
    if_some _ (λ rest. c.args.name.now ≡ c.args.text.now ++ rest.now) c.strip_prefix.result
    (strip_prefix_is Decides-eqb c.args.name.now c.args.text.now c.strip_prefix.result c.strip_prefix.ensures.cases)
