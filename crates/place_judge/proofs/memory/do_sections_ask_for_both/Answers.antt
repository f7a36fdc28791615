use Rattle.std.proofs.Common.{◌≡◌, true}
use Rattle.elf_model.specs.Link.Pieces.{Piece}
use Rattle.check_link.specs.Views.{piece_view}
use Rattle.judge_model.specs.Placed.{writes_code}
use Rattle.place_judge.proofs.Maps.{any_seen}
use Rattle.place_judge.proofs.memory.do_sections_ask_for_both.Goals as goal

pub returns : goal.returns
returns c =
    let seen = any_seen (λ (p : Piece). writes_code p.header ≡ true) piece_view c.args.pieces.now in
    (λ t. seen.0 (c.do_some_ask.ensures.0 t), λ any. c.do_some_ask.ensures.1 (seen.1 any))
