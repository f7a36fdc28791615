use Rattle.std.proofs.Common.{◌≡◌, ◌∙◌, ap, arith, get_or, subst, sym, List, ℕ}
use Rattle.std.specs.Prelude.{Option}
use Rattle.std.proofs.lemmas.List.{get_or_default}
use Rattle.byteview.specs.Numbers.{part}
use Rattle.ar_index.specs.Parts.{Part, PartialFile, no_part, part_size}
use Rattle.file_io.specs.Placed.{AreToldPassed, IsToldAt}
use Rattle.file_io.proofs.PartFills.{one_filled}
use Rattle.file_io.proofs.placed_bytes.read_content.Goals as goal

pub returns-clause-passed : goal.returns-clause-passed
returns-clause-passed g c first passed =
    let told = g.P.PlacedBytes.told c.args.bytes.now in
    let ps = c.args.file.now.members in
    let i = c.args.i in
    let d = c.index-members-i.result in
    let content = c.in_ok-content.content.items in
    let member : d ≡ get_or ps i no_part =
    c.index-members-i.is ∙ ap (λ (xs : List Part). get_or xs i d) c.members.ensures ∙ get_or_default ps i d no_part c.requires in
    let size : c.size-size.result ≡ part_size (get_or ps i no_part) = c.size-size.ensures ∙ ap (λ (p : Part). part_size p) member in
    subst (λ (f : PartialFile). AreToldPassed told first f.members i c.args.at) (sym c.fill.ensures)
    (one_filled told first ps i c.args.at no_part passed c.requires content
    (λ file is n n_is small.
    let at : c.saturating_add.result ≡ n = omega (arith, c.saturating_add.ensures, n_is, small) in
    let here = subst (λ (t : Option (List ℕ)). IsToldAt t c.saturating_add.result c.size-size.result content) is c.in_ok-content.ensures.told in
    here.1 ∙ (λ j. part file (at j) (size j))))
