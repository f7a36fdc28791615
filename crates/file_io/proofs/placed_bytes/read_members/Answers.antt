use Rattle.std.proofs.Common.{◌≡◌, ◌∙◌, ◌+◌, ◌%◌, ◌<◌, ap, arith, get_or, length, subst, sym, List, ℕ}
use Rattle.std.specs.Prelude.{Option}
use Rattle.ar_index.specs.Parts.{Part, part_size}
use Rattle.file_io.specs.Placed.{AreToldPassed}
use Rattle.file_io.proofs.PartFills.{one_passed}
use Rattle.file_io.proofs.placed_bytes.read_members.Goals as goal

pub loop-i-preserved : goal.loop-i-preserved
loop-i-preserved g c =
    let inv = c.loop-i.invariant in
    let told = g.P.PlacedBytes.told in
    let first = c.args.file.now.members in
    let ps = c.read_content.new.file.members in
    let i = c.loop-i.i in
    let at = c.loop-i.at in
    let d = c.index-members-i.result in
    let count = c.read_content.ensures.count in
    let same = inv.same in
    let passed =
    subst (λ (t : Option (List ℕ)). AreToldPassed t first ps i at) same
    (c.read_content.ensures.passed first (subst (λ (t : Option (List ℕ)). AreToldPassed t first c.loop-i.file.members i at) (sym same) inv.passed)) in
    let within : i < length ps =
    (let was = inv.count in let end = ap (λ (xs : List Part). length xs) c.members-i-end.ensures in let below = c.loop-i-test.true in omega (arith, count, was, end, below)) in
    let size : c.size.result ≡ part_size (get_or ps i d) =
    c.size.ensures ∙ ap (λ (p : Part). part_size p) (c.index-members-i.is ∙ ap (λ (xs : List Part). get_or xs i d) c.members.ensures) in
    record {
      passed =
          one_passed (told c.args.bytes.now) first ps i at d passed within c.place_behind-at.result
          (λ n n_is small. c.place_behind-at.ensures n (n_is ∙ (λ j. at + 60 + sym size j + sym size j % 2)) small);
      count = count ∙ inv.count;
      name = c.read_content.ensures.name ∙ inv.name;
      same = c.read_content.ensures.same ∙ same;
    }
