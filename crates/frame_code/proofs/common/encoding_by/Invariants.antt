use Rattle.std.proofs.Common.{◌≡◌, drop}
use Rattle.judge_model.specs.FrameCode.{encoding_by}
use Rattle.frame_code.proofs.common.encoding_by.Given as goal

abbrev pub invariant-loop-letter : goal.invariant-loop-letter
invariant-loop-letter l = encoding_by (drop l.letter-index l.letters) l.rest l.known ≡ encoding_by l.letters l.bytes l.encoding
