use Rattle.std.proofs.Common.{◌≡◌, ◌+◌, ◌*◌, ◌%◌, ℕ, drop, take, sym, ◌∙◌, ap, subst}
use Rattle.pcm_base.specs.declared.config.Shape.{Shape}
use Rattle.pcm_base.specs.CardFacts.{CardFacts, given_bytes}
use Rattle.pcm_base.specs.model.Frame.{bytes_of}
use Rattle.pcm_base.specs.model.Movement.{move, given_by}
use Rattle.pcm_base.specs.model.Sound.{Sound}
use Rattle.pcm_base.specs.model.Standing.{put_at}
use Rattle.pcm_base.specs.model.Stream.{Stream}
use Rattle.pcm_laws.proofs.KeptByEvents.{Sound-move}
use Rattle.pcm_stream.specs.Runs.{Keeps, RunsFor, known, with_puts}
use Rattle.pcm_stream.specs.StandsFor.{IsUnset}
use Rattle.pcm_stream.specs.Wide.{AreWide}
use Rattle.pcm_stream.specs.declared.runtime.Runtime.{Runtime}
use Rattle.pcm_stream.proofs.CardLemmas.{stands-at, position-on, whole-count, move-captured, captured-kept, given-bytes, length-given, AreWide-given, drop-bytes_of}
use Rattle.pcm_stream.proofs.MoveLemmas.{captured}
use Rattle.pcm_stream.proofs.StreamLemmas.{for_some, no_none}
use Rattle.pcm_stream.proofs.substream.Substream.capture.Goals as goal

pub returns-clause-moved : goal.returns-clause-moved
returns-clause-moved g c s h can =
    let r = c.in-Some.runtime in
    let w = r.shape.frame_bytes in
    let kept = h.shows.runs_for r c.in-Some.is in
    let same : (move c.args.n s).stream ≡ captured c.args.n s = move-captured c.args.n s can.dir can.runs can.near in
    let after = c.receive.ensures.after in
    let sizes : c.receive.new.self.shape ≡ r.shape = c.receive.ensures.shape in
    let stood : (g.C.Card.facts c.args.self.now.card).position ≡ s.at.card % r.shape.buffer = h.shows.position r c.in-Some.is in
    let stands : (g.C.Card.facts c.receive.new.card).position ≡ (s.at.card + c.args.n) % r.shape.buffer =
    ap (λ (f : CardFacts). f.position) after
    ∙ ap (λ (x : ℕ). ((g.C.Card.facts c.args.self.now.card).position + x) % r.shape.buffer) (whole-count c.args.n w r.sound.frame)
    ∙ position-on r.shape.buffer (g.C.Card.facts c.args.self.now.card).position s.at.card c.args.n stood in
    let to_give : (g.C.Card.facts c.receive.new.card).to_give ≡ bytes_of (drop c.args.n s.card.to_give) =
    ap (λ (f : CardFacts). f.to_give) after ∙ ap (drop (c.args.n * w)) h.shows.to_give ∙ drop-bytes_of w c.args.n s.card.to_give kept.frames.to_give in
    let front : take (c.args.n * r.shape.frame_bytes) c.receive.new.self.piece.items ≡ bytes_of (given_by c.args.n s) =
    c.receive.ensures.given ∙ ap (given_bytes (c.args.n * w)) h.shows.to_give ∙ given-bytes c.args.n w s kept.setup.frame_bytes kept.frames.to_give in
    let put : Keeps c.write.new.self (with_puts (put_at s.at.card (given_by c.args.n s) s.puts) (known s)) =
    c.write.ensures.put s (given_by c.args.n s)
    (c.position-position.ensures.value ∙ stood ∙ ap (λ (x : Shape). s.at.card % x.buffer) (sym sizes))
    (c.receive.ensures.same s kept)
    (length-given c.args.n s)
    (subst (λ (x : Shape). AreWide x.frame_bytes (given_by c.args.n s)) (sym sizes) (AreWide-given c.args.n w s kept.setup.frame_bytes kept.frames.to_give))
    (subst (λ (x : Shape). take (c.args.n * x.frame_bytes) c.receive.new.self.piece.items ≡ bytes_of (given_by c.args.n s)) (sym sizes) front) in
    let now : RunsFor c.count.new.self (captured c.args.n s) =
    captured-kept c.count.new.self c.args.n s (c.count.ensures.counted (with_puts (put_at s.at.card (given_by c.args.n s) s.puts) (known s)) put) in
    let all : c.count.new.self.shape ≡ r.shape = c.count.ensures.shape ∙ c.write.ensures.shape ∙ sizes in
    stands-at _ (move c.args.n s).stream (captured c.args.n s) same (record {
      shows = record {
        dir = h.shows.dir;
        model = ap (λ (f : CardFacts). f.model) after ∙ h.shows.model;
        long_max = h.shows.long_max;
        state = h.shows.state;
        kept = h.shows.kept;
        taken = ap (λ (f : CardFacts). f.taken) after ∙ h.shows.taken;
        to_give = to_give;
        unset = λ e. no_none (IsUnset s.setup.config (s.moved + c.args.n)) c.count.new.self e;
        runs_for = for_some (λ (x : Runtime). RunsFor x (captured c.args.n s)) c.count.new.self now;
        position = for_some (λ (x : Runtime). (g.C.Card.facts c.receive.new.card).position ≡ (s.at.card + c.args.n) % x.shape.buffer) c.count.new.self
            (stands ∙ ap (λ (x : Shape). (s.at.card + c.args.n) % x.buffer) (sym all));
      };
      runs = ap (λ (f : CardFacts). f.runs) after ∙ h.runs;
      plan = λ p is. h.plan p (sym (ap (λ (f : CardFacts). f.plan) after) ∙ is);
      sound = subst (λ (t : Stream). Sound t) same (Sound-move c.args.n s h.sound);
    })
