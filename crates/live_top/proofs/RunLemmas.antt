-- A run that came to its end is a beginning of one; what passes have called, first in the setup, then by their workers.
use Rattle.std.proofs.Common.{ℕ, List, [], length, map, sym, subst, append-nil}
use Rattle.std.specs.declared.option.Option.{Option}
use Rattle.std.proofs.Math.Seq.{take-length}
use Rattle.pcm_io.specs.Shelf.{Files}
use Rattle.pcm_line.specs.declared.line.Line.{Line}
use Rattle.floor_rule.specs.declared.rule.Marked.{Marked}
use Rattle.live_plan.specs.declared.plan.Plan.{Plan}
use Rattle.live_work.specs.Called.{Call}
use Rattle.live_work.specs.Runs.{AreCallsOf}
use Rattle.live_top.specs.Callers.{IsClientRun, IsClientStart, asked, card_events, lines_of}
use Rattle.live_top.specs.Outcome.{IsRun, IsRunStart, IsSetupBy}

module _ (plan : Plan) (files : Option Files) where
  client_start : (setup : List Call) (c : ℕ) (calls : List Call) → IsClientRun plan setup c calls → IsClientStart plan setup c calls
  client_start setup c calls r = record {
    worked = r.worked;
    both = r.both;
    count = length (lines_of plan c);
    lines = subst (λ (l : List Line). AreCallsOf l r.worked) (sym (take-length (lines_of plan c))) r.lines;
  }

  pub run_start : (logs : ℕ → List Marked) → IsRun plan files logs → IsRunStart plan files logs
  run_start logs r = record {
    setup = r.setup;
    lines = length plan.setup.items;
    set_up = subst (λ (l : List Line). IsSetupBy plan files l r.setup) (sym (take-length plan.setup.items)) r.set_up;
    clients = λ c lt. let t = r.clients c lt in (t.0, client_start (map asked r.setup) c t.0 t.1, t.2);
    cards = λ k lt. let events = card_events plan (map asked r.setup) k in (events, ([], append-nil events), r.cards k lt);
    client_replies = r.client_replies;
    card_replies = r.card_replies;
  }
