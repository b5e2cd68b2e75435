use Rattle.std.proofs.Common.{◌≡◌, ◌≤◌, ◌+◌, ℕ, List, [], length, true}
use Rattle.std.specs.Prelude.{IfSome}
use Rattle.std.specs.Io.KnownBytes.{Appends, IsAtEnd}
use Rattle.pcm_top.specs.CodeSession.{IsSession, behind}
use Rattle.pcm_top.specs.Script.{line_limit}
use Rattle.pcm_top.specs.Session.{Session}
use Rattle.pcm_top.proofs.StreamLemmas.{IsAmid}
use Rattle.pcm_top.proofs.script.run_lines.Given as goal

-- The session keeps the text that is not written yet, behind what is.
abbrev pub invariant-lines : goal.invariant-lines
invariant-lines g l =
    let S = g.S.Source in
    let K = g.K.Sink in
    let F = g.F.Shelf in
    record {
      now : Session;
      session : IsSession l.session (F.files l.shelf) now;
      sent : List ℕ;
      written : Appends (K.written l.fn.out) (K.written l.out) sent;
      amid : IfSome (S.left l.fn.source) (λ script. IsAmid l.command script (F.files l.fn.shelf) l.count l.lines.ahead (behind sent now) (S.left l.source));
      at_end : l.lines.ahead.ended ≡ true → IsAtEnd (S.left l.source);
      more : l.lines.ahead.bytes ≡ [] → l.lines.ahead.room ≡ 0 → ⊥;
      calm_source : S.faults l.source ≡ S.faults l.fn.source;
      calm_sink : K.faults l.out ≡ K.faults l.fn.out;
      calm_shelf : F.faults l.shelf ≡ F.faults l.fn.shelf;
      count : l.count ≤ line_limit;
    }

abbrev pub decreases-lines : goal.decreases-lines
decreases-lines g l = length l.lines.ahead.bytes + l.lines.ahead.room
