use Rattle.std.proofs.Common.{ap, sym, ◌∙◌}
use Rattle.std.specs.Prelude.{◌≡◌, true}
use Rattle.std.specs.Str.{bytes_eq}
use Rattle.std.specs.Ordering.{is_eq}
use Rattle.std.proofs.lemmas.Map.Text.{is_eq-slice_cmp}
use Rattle.std.proofs.lemmas.Slice.Eq.{bytes_eq-Decides}
use Rattle.opening.proofs.files.FileIndex.find.Goals as goal

pub returns-clause-name : goal.returns-clause-name
returns-clause-name c =
    let key = c.in_ok-name.name.now.now in
    let tie : bytes_eq c.args.name.now key ≡ true = sym (is_eq-slice_cmp c.args.name.now key) ∙ ap is_eq c.in_ok-name.ensures.same_key in
    sym ((bytes_eq-Decides c.args.name.now key).0 tie)
