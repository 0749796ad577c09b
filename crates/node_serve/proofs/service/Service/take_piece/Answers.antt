use Rattle.std.proofs.Common.{rules, ℕ}
use Rattle.jupyter_frames.specs.Framing.{IsBegun, IsBad}
use Rattle.node_intake.specs.declared.session.IntakeEnd.TheVariants as intake
use Rattle.node_serve.specs.declared.service.Heard.TheVariants.{More, Ended}
use Rattle.node_serve.proofs.Serving.{piece_taken, piece_front, piece_lost}
use Rattle.node_serve.proofs.service.Service.take_piece.Goals as goal

pub returns-in-Ok-true : goal.returns-in-Ok-true
returns-in-Ok-true g c =
    let left : IsBegun c.take_frames.new.framer.bytes = search rules in
    record {
      took = piece_taken c.args.hosts g.N.Name.queues c.args.self.now.framer c.feed.new.self c.take_frames.new.framer c.args.self.now.node c.take_frames.new.node c.args.self.now.told c.args.piece.now More
          c.in-Ok.ensures.ok c.feed.ensures.place c.in-Ok-true.ensures.took c.in-Ok-true.ensures.kept left;
    }

pub returns-in-Ok-false : goal.returns-in-Ok-false
returns-in-Ok-false g c =
    let left : (n : ℕ) × IsBad c.take_frames.new.framer.bytes n = search rules in
    record {
      took = piece_taken c.args.hosts g.N.Name.queues c.args.self.now.framer c.feed.new.self c.take_frames.new.framer c.args.self.now.node c.take_frames.new.node c.args.self.now.told c.args.piece.now (Ended intake.End)
          c.in-Ok.ensures.ok c.feed.ensures.place c.in-Ok-false.ensures.took c.in-Ok-false.ensures.kept left;
    }

pub returns-in-Err-take_frames : goal.returns-in-Err-take_frames
returns-in-Err-take_frames g c = record {
  took = piece_front c.args.hosts g.N.Name.queues c.args.self.now.framer c.feed.new.self c.args.self.now.node c.take_frames.new.node c.args.piece.now
      c.in-Ok.ensures.ok c.feed.ensures.place c.in-Err-take_frames.ensures.err c.in-Err-take_frames.ensures.kept;
}

pub returns-in-Err : goal.returns-in-Err
returns-in-Err g c = record { took = piece_lost c.args.hosts g.N.Name.queues c.args.self.now.framer c.args.self.now.node c.args.piece.now }
