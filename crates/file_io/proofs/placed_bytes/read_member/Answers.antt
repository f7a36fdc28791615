use Rattle.std.proofs.Common.{◌≡◌, ◌∙◌, ◌+◌, ◌%◌, ap, arith, subst, sym, List, ℕ}
use Rattle.std.specs.Prelude.{Option, codes}
use Rattle.ar_index.specs.Parts.{Part, part_data, part_size}
use Rattle.file_io.specs.Placed.{IsToldAt}
use Rattle.file_io.proofs.PartReads.{member_told}
use Rattle.file_io.proofs.placed_bytes.read_member.Goals as goal

pub returns-clause-told : goal.returns-clause-told
returns-clause-told g c =
    let told = g.P.PlacedBytes.told in
    let m = c.in_ok-whole.whole in
    let at = c.args.at in
    let first = c.read_at.ensures.same in
    let second = c.is_padded.ensures.same ∙ first in
    let header : m.header ≡ c.in_ok-header.header.items = c.in_ok-whole.ensures.header ∙ ap (λ (p : Part). p.header) c.in-Some.ensures.1 in
    let size : c.size-size.result ≡ part_size m =
    c.size-size.ensures ∙ ap (λ (h : List ℕ). part_size (record { header = h; content = m.content })) (sym c.in_ok-whole.ensures.header) in
    member_told (told c.args.bytes.now) c.args.len at _ m c.show.ensures.part
    (subst (λ (h : List ℕ). IsToldAt (told c.args.bytes.now) at 60 h) (sym header) c.in_ok-header.ensures.told)
    (ap (λ (n : ℕ). at + 60 + n + n % 2) size)
    (c.in_ok-is_padded.ensures.inside c.if-not-branch.false)
    (λ odd.
    subst (λ (n : ℕ). IsToldAt (told c.args.bytes.now) (at + 60 + n) 1 (codes "\n")) size
    (subst (λ (t : Option (List ℕ)). IsToldAt t (at + 60 + c.size-size.result) 1 (codes "\n")) first
    (c.in_ok-is_padded.ensures.told c.if-not-branch.false (ap (λ (n : ℕ). n % 2) size ∙ odd))))
    (λ some. subst (λ (t : Option (List ℕ)). IsToldAt t (at + 60) (part_size m) (part_data m)) second (c.in_ok-whole.ensures.told some))
    c.in_ok-whole.ensures.table
