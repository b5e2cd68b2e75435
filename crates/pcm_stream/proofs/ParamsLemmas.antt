-- What the calls on a substream's parameters leave of what it stands for.
use Rattle.std.proofs.Common.{◌≡◌, ◌%◌, true, false, refl, sym, ◌∙◌, ap}
use Rattle.std.specs.Option.{ForSome}
use Rattle.std.specs.Prelude.{Bool, List, length, replicate, Result, Ok, Err, IfErr, OnErr, nat_lt}
use Rattle.std.specs.declared.option.Option.{Option}
use Rattle.std.specs.declared.option.Option.TheVariants.{Some, None}
use Rattle.pcm_base.specs.CardFacts.{plan_cleared}
use Rattle.pcm_base.specs.declared.call.CallKind.{CallKind}
use Rattle.pcm_base.specs.declared.call.CallKind.TheVariants as kind
use Rattle.pcm_base.specs.declared.card.Card.{Ghosts}
use Rattle.pcm_base.specs.declared.config.Config.{Config}
use Rattle.pcm_base.specs.declared.config.Shape.{Shape}
use Rattle.pcm_base.specs.declared.config.SwParams.{SwParams}
use Rattle.pcm_base.specs.declared.state.Dir.{Dir}
use Rattle.pcm_base.specs.declared.state.Errno.{Errno}
use Rattle.pcm_base.specs.declared.state.Errno.TheVariants as errno
use Rattle.pcm_base.specs.declared.state.State.{State}
use Rattle.pcm_base.specs.model.Acts.{table}
use Rattle.pcm_base.specs.model.Events.{set_sw}
use Rattle.pcm_base.specs.model.Permit.{permit}
use Rattle.pcm_base.specs.model.Software.{refuses_sw}
use Rattle.pcm_base.specs.model.Sound.{IsConfigured, IsPlaced}
use Rattle.pcm_base.specs.model.Stream.{Stream, no_plan}
use Rattle.pcm_base.specs.model.Words.{when, ◌then◌}
use Rattle.pcm_stream.specs.Runs.{RunsFor}
use Rattle.pcm_stream.specs.SetUp.{change_refusal, sw_refusal}
use Rattle.pcm_stream.specs.StandsFor.{IsUnset, Shows, StandsFor}
use Rattle.pcm_stream.specs.declared.runtime.Runtime.{Runtime}
use Rattle.pcm_stream.specs.declared.substream.Substream.{Substream}
use Rattle.state_table.specs.Cases.{answer_of}
use Rattle.pcm_stream.proofs.ActsLemmas.{IsOneWay}
use Rattle.pcm_stream.proofs.StreamLemmas.{configured, for_some, no_none, sound_configured}

-- what the error table allows a substream, it allows its stream
answer-none : {u : Unit {0}} (x : Option Errno) → Ok u ≡ answer_of x → x ≡ None
answer-none None e = refl
answer-none (Some x) e = absurd (cc)

pub table-none : {C : Type 0} {g : Ghosts C} {u : Unit {0}} (k : CallKind) (sub : Substream C g) (s : Stream) → Shows sub s → Ok u ≡ answer_of (permit k sub.state sub.dir) → table k s ≡ None
table-none k sub s h e =
    sym (ap (λ (t : State). permit k t sub.dir) h.state ∙ ap (λ (d : Dir). permit k s.state d) h.dir) ∙ answer-none (permit k sub.state sub.dir) e

answer-some : (x : Option Errno) (d : Errno) → Err d ≡ answer_of x → x ≡ Some d
answer-some None d e = absurd (cc)
answer-some (Some x) d e = cc

pub table-some : {C : Type 0} {g : Ghosts C} (k : CallKind) (sub : Substream C g) (s : Stream) (d : Errno) → Shows sub s → Err d ≡ answer_of (permit k sub.state sub.dir) → table k s ≡ Some d
table-some k sub s d h e =
    sym (ap (λ (t : State). permit k t sub.dir) h.state ∙ ap (λ (d : Dir). permit k s.state d) h.dir) ∙ answer-some (permit k sub.state sub.dir) d e

-- ---- software parameters

pub sw-allowed : (w : SwParams) (s : Stream) → table kind.SwParams s ≡ None → refuses_sw s.setup.buffer s.setup.boundary w ≡ false → sw_refusal w s ≡ None
sw-allowed w s t h = ap (λ x. x then when (refuses_sw s.setup.buffer s.setup.boundary w) errno.Einval) t ∙ ap (λ b. when b errno.Einval) h

pub sw-refused : {T : Type 0} (P : Type 0) (w : SwParams) (s : Stream) (r : Result T Errno) → table kind.SwParams s ≡ None
    → IfErr r (λ e. (e ≡ errno.Einval) × (refuses_sw s.setup.buffer s.setup.boundary w ≡ true)) → OnErr r P → IfErr r (λ e. (sw_refusal w s ≡ Some e) × P)
sw-refused P w s (Ok x) t h k = tt
sw-refused P w s (Err e) t h k =
    (ap (λ x. x then when (refuses_sw s.setup.buffer s.setup.boundary w) errno.Einval) t ∙ ap (λ b. when b errno.Einval) h.1 ∙ ap Some (sym h.0), k)

IsConfigured-set_sw : (c : Config) (w : SwParams) (s : Stream) → refuses_sw s.setup.buffer s.setup.boundary w ≡ false → IsConfigured c s → IsConfigured c (set_sw w s)
IsConfigured-set_sw c w s f h =
    let p : IsPlaced s = h.placed in
    record {
      shaped = record { allowed = h.shaped.allowed; frame_bytes = h.shaped.frame_bytes; buffer = h.shaped.buffer; boundary = h.shaped.boundary; sw = f };
      placed = record { reported = p.reported; near = p.near; origin = p.origin; written = p.written; fewer = p.fewer; filled = p.filled };
      state = h.state;
      running = h.running;
      kept = h.kept;
    }

pub StandsFor-set_sw : {C : Type 0} {g : Ghosts C} (a b : Substream C g) (w : SwParams) (s : Stream) (r u : Runtime) → IsOneWay a b → a.runtime ≡ Some r → b.runtime ≡ Some u → u.shape ≡ r.shape
    → refuses_sw s.setup.buffer s.setup.boundary w ≡ false → RunsFor u (set_sw w s) → StandsFor a s → StandsFor b (set_sw w s)
StandsFor-set_sw {C} {g} a b w s r u one er eu shape f runs h =
    let facts : g.facts b.card ≡ g.facts a.card = ap g.facts one.card in
    let config : s.setup.config ≡ Some r.config = (h.shows.runs_for r er).setup.config in
    let at : (g.facts b.card).position ≡ s.at.card % u.shape.buffer =
    ap (λ f. f.position) facts ∙ h.shows.position r er ∙ ap (λ (x : Shape). s.at.card % x.buffer) (sym shape) in
    record {
      shows = record {
        dir = one.dir ∙ h.shows.dir;
        model = ap (λ f. f.model) facts ∙ h.shows.model;
        long_max = one.long_max ∙ h.shows.long_max;
        state = one.state ∙ h.shows.state;
        kept = one.kept ∙ h.shows.kept;
        taken = ap (λ f. f.taken) facts ∙ h.shows.taken;
        to_give = ap (λ f. f.to_give) facts ∙ h.shows.to_give;
        unset = λ e. no_none (IsUnset s.setup.config s.moved) u (sym eu ∙ e);
        runs_for = λ x e. for_some (λ (y : Runtime). RunsFor y (set_sw w s)) u runs x (sym eu ∙ e);
        position = λ x e. for_some (λ (y : Runtime). (g.facts b.card).position ≡ s.at.card % y.shape.buffer) u at x (sym eu ∙ e);
      };
      runs = ap (λ f. f.runs) facts ∙ h.runs;
      plan = λ p e. h.plan p (sym (ap (λ f. f.plan) facts) ∙ e);
      sound = sound_configured r.config (set_sw w s) config (IsConfigured-set_sw r.config w s f (configured r.config s config h.sound));
    }

-- ---- the configuration

-- the refusal of a change, by the table's answer
pub change-refusal : (k : CallKind) (b : Bool) (s : Stream) (o : Option Errno) → table k s ≡ o → change_refusal k b s ≡ (o then (when (nat_lt 0 s.mappings) errno.Ebadfd then when b errno.Ebusy))
change-refusal k b s o e = ap (λ x. x then (when (nat_lt 0 s.mappings) errno.Ebadfd then when b errno.Ebusy)) e

-- ---- fault plans

-- a plan of 64 entries is emptied
pub cleared-plan : (o : Option (List Bool)) (p : List Bool) → ForSome o (λ x. length x ≡ 64) → plan_cleared o ≡ Some p → p ≡ no_plan
cleared-plan None p h e = absurd (cc)
cleared-plan (Some q) p h e = let k : replicate (length q) false ≡ p = cc in sym k ∙ ap (λ n. replicate n false) (h q refl)
