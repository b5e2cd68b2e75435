use Rattle.std.proofs.Common.{◌≡◌, ◌+◌, ◌-◌, ◌*◌, ◌∙◌, List, ℕ, take, drop, ap, subst, refl, rules, arith, length}
use Rattle.std.specs.Io.KnownBytes.{Appends}
use Rattle.pcm_io.proofs.Taken.{appends_next, appends_within}
use Rattle.pcm_io.proofs.writing.write_whole.Goals as goal

pub returns-in_err-write_all-clause-front : goal.returns-in_err-write_all-clause-front
returns-in_err-write_all-clause-front g c =
    let n = c.in_err-write_all.ensures.front in
    let done : ℕ = c.pieces.i * 4096 in
    let size : done + 4096 - done ≡ 4096 = omega arith in
    appends_within _ _ _ c.args.text.now _ done n.0 4096 c.pieces.invariant.front n.2 (ap (λ (k : ℕ). take k (drop done c.args.text.now)) size) n.1 (omega arith)

pub pieces-preserved : goal.pieces-preserved
pieces-preserved g c =
    let K = g.K.Sink in
    let done : ℕ = c.pieces.i * 4096 in
    let size : done + 4096 - done ≡ 4096 = omega arith in
    let next : done + 4096 ≡ (c.pieces.i + 1) * 4096 = omega arith in
    let piece = subst (λ (k : ℕ). Appends (K.written c.pieces.sink) (K.written c.write_all.new.sink) (take k (drop done c.args.text.now))) size c.in_ok-write_all.ensures.all in
    record {
      front = subst (λ (n : ℕ). Appends (K.written c.args.sink.now) (K.written c.write_all.new.sink) (take n c.args.text.now)) next
          (appends_next _ _ _ c.args.text.now (drop done c.args.text.now) done 4096 c.pieces.invariant.front piece refl);
      kept = search rules;
    }
