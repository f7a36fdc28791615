use Rattle.std.proofs.Common.{◌<◌, ◌∙◌, Some, ap, arith}
use Rattle.checker.specs.Rising.{fields_of}
use Rattle.checker.proofs.RisingFields.{matched_whole}
use Rattle.checker.proofs.rising_fields.has_fields.Goals as goal

pub returns-then-end-size-clause-held : goal.returns-then-end-size-clause-held
returns-then-end-size-clause-held c =
    let fs = fields_of c.args.here.now c.args.relas.now in
    let held = c.in-Some.run'.bytes.now in
    let size = c.load_size-size.result in
    let is = c.load_size-size.ensures in
    λ e. record {
      bytes = λ k low.
          let below : k < size = omega (arith, low, is) in
          c.in-Some.ensures.run.same k below
          ∙ ap Some
          (matched_whole held c.args.placed.now.piece.bytes.now fs c.in-Some-end_of_fields.end c.in-Some-end_of_fields.ensures.matched size (c.same_between.ensures.0 e) k below);
    }
