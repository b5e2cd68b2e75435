-- Calls in progress on a stream that keeps its direction, its set-up and its calls.
use Rattle.std.proofs.Common.{◌≡◌, ℕ, ◌+◌, ◌*◌, ◌^◌, ◌<◌, List, [], ◌∷◌, sym, ap, ◌∙◌, subst}
use Rattle.std.specs.Option.{is_some}
use Rattle.pcm_base.specs.declared.ids.SubId.{SubId}
use Rattle.pcm_base.specs.declared.sleeper.Sleeper.{Sleeper}
use Rattle.pcm_base.specs.declared.sleeper.Task.{Task}
use Rattle.pcm_base.specs.declared.sleeper.Task.TheVariants as task
use Rattle.pcm_base.specs.declared.state.Dir.{Dir}
use Rattle.pcm_base.specs.model.Stream.{Setup, Stream, Waiting, Member as ModelMember}
use Rattle.pcm_base.specs.model.Transfer.{fits}
use Rattle.pcm_base.specs.model.Words.{is_playback}
use Rattle.pcm_stream.specs.MembersStand.{CallsFit, IsMember, IsTransferOn, TaskFits}

TaskFits-same : (s t : Stream) (w : Task) → t.dir ≡ s.dir → t.setup ≡ s.setup → TaskFits s w → TaskFits t w
TaskFits-same s t (task.Transfer x wanted) dir setup h =
    let k : IsTransferOn s x = h in
    record {
      writing = k.writing ∙ ap (λ (d : Dir). is_playback d) (sym dir);
      layout = ap (λ (c : Setup). fits x.layout c.config) setup ∙ k.layout;
      mode = k.mode;
      rest = k.rest;
      bytes = subst (λ (n : ℕ). (x.moved + x.rest) * n < 2 ^ 64) (sym (ap (λ (c : Setup). c.frame_bytes) setup)) k.bytes;
    }
TaskFits-same s t task.Drain dir setup h = ap (λ (c : Setup). is_some c.config) setup ∙ h

pub CallsFit-same : (s t : Stream) (ps : List Waiting) → t.dir ≡ s.dir → t.setup ≡ s.setup → CallsFit s ps → CallsFit t ps
CallsFit-same s t [] dir setup h = tt
CallsFit-same s t (p ∷ ps) dir setup h = (TaskFits-same s t p.task dir setup h.0, CallsFit-same s t ps dir setup h.1)

pub IsMember-same : (sub : SubId) (calls : List Sleeper) (x : ModelMember) (t : Stream) → t.dir ≡ x.stream.dir → t.setup ≡ x.stream.setup → t.sleepers ≡ x.stream.sleepers
    → IsMember sub calls x → IsMember sub calls (record x { stream = t })
IsMember-same sub calls x t dir setup same h = record {
  number = h.number;
  apart = h.apart;
  calls = h.calls ∙ sym same;
  marks = h.marks;
  fit = subst (λ (ps : List Waiting). CallsFit t ps) (sym same) (CallsFit-same x.stream t x.stream.sleepers dir setup h.fit);
}
