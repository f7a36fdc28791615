use Rattle.std.proofs.Common.{◌≡◌, ◌∙◌, ap, arith, subst, sym, List, ℕ}
use Rattle.std.specs.Prelude.{IfSome, Option, codes}
use Rattle.ar_index.specs.Parts.{Part, PartialFile}
use Rattle.file_io.specs.Placed.{IsToldMember}
use Rattle.file_io.proofs.PartReads.{all_told, more_told, none_told}
use Rattle.file_io.proofs.placed_bytes.read_parts.Goals as goal

pub loop-at-init : goal.loop-at-init
loop-at-init g c =
    let same : c.in_ok-magic.magic.items ≡ codes "!<arch>\n" = sym c.deref.ensures.value ∙ c.equal_run.ensures.0 c.if-not-equal_run.false in
    record {
      told =
          none_told (g.P.PlacedBytes.told c.args.bytes.now) c.args.len c.in_ok-magic.magic.items c.new-file.result.members c.in_ok-magic.ensures.told same
          (ap (λ (f : PartialFile). f.members) c.new-file.ensures);
      name = ap (λ (f : PartialFile). f.name) c.new-file.ensures;
      same = c.read_at.ensures.same;
    }

pub loop-at-preserved : goal.loop-at-preserved
loop-at-preserved g c =
    let inv = c.loop-at.invariant in
    let told = g.P.PlacedBytes.told in
    let here = subst (λ (o : Option (Part × ℕ)). IfSome o (λ w. IsToldMember (told c.loop-at.bytes) c.args.len w.0 c.loop-at.at w.1)) c.in-Some.is c.in_ok-member.ensures.told in
    let one = subst (λ (t : Option (List ℕ)). IsToldMember t c.args.len c.in-Some.member c.loop-at.at c.in-Some.next) inv.same here in
    record {
      told =
          more_told (told c.args.bytes.now) c.args.len c.loop-at.at c.in-Some.next c.loop-at.file.members c.add.new.self.members c.in-Some.member inv.told one
          (ap (λ (f : PartialFile). f.members) c.in_ok-add.ensures.added);
      name = ap (λ (f : PartialFile). f.name) c.in_ok-add.ensures.added ∙ inv.name;
      same = c.read_member.ensures.same ∙ inv.same;
    }

pub returns-clause-told : goal.returns-clause-told
returns-clause-told g c =
    all_told (g.P.PlacedBytes.told c.args.bytes.now) c.args.len c.loop-at.at c.loop-at.file.members c.loop-at.invariant.told (omega (arith, c.loop-at-test.false))
