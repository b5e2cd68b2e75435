-- A run of a plan whose files are there comes to its end, or to a log that the plan can fill.
use Rattle.std.proofs.Common.{◌≡◌, ◌≢◌, ◌<◌, ℕ, zero, suc, Bool, true, List, [], ◌∷◌, length, slice_get, slice_index_or, ◌||◌, Some, None, refl, sym, ap, ◌∙◌, subst, arith}
use Rattle.std.specs.Prelude.{Err, Vec}
use Rattle.std.specs.Global.{Global}
use Rattle.std.specs.List.{AllByRecursion, list_any}
use Rattle.std.specs.declared.option.Option.{Option}
use Rattle.pcm_base.specs.declared.ids.SubId.{SubId}
use Rattle.pcm_io.specs.Shelf.{Files}
use Rattle.pcm_line.specs.declared.line.Line.{Line}
use Rattle.pcm_line.specs.declared.line.Line.TheVariants.{Feed}
use Rattle.pcm_text.specs.declared.status.Status.{Status}
use Rattle.pcm_text.specs.declared.status.Status.TheVariants as status
use Rattle.pcm_text.specs.declared.status.Which.TheVariants as which
use Rattle.wav_file.proofs.Files.{not_both}
use Rattle.live_plan.specs.declared.error.PlanError.{PlanError}
use Rattle.live_plan.specs.declared.error.PlanError.TheVariants as error
use Rattle.live_plan.specs.declared.plan.Plan.{Plan}
use Rattle.live_plan.specs.Plan.{Gives, HasAll, Whole}
use Rattle.live_plan.specs.Said.{Said}
use Rattle.live_top.specs.Complete.{HasFile, IsGoodEnd, IsOnShelf, IsReady, IsWavFile}
use Rattle.live_top.specs.Files.{Finds, IsFileEnd}
use Rattle.live_top.specs.Filling.{can_fill, can_fill_logs}
use Rattle.live_top.specs.RunEnds.{IsRunEnd, status_of}
use Rattle.live_top.specs.Setup.{IsFeedFault}

-- two plans of the same lines can both fill a log, or neither

abbrev has_one : Vec Line Global → Bool
has_one lines = list_any can_fill lines.items

any_same : (xs ys : List (Vec Line Global)) → length xs ≡ length ys
    → ((c : ℕ) (none : Vec Line Global) → c < length xs → (slice_index_or xs c none).items ≡ (slice_index_or ys c none).items) → list_any has_one xs ≡ list_any has_one ys
any_same [] [] size same = refl
any_same [] (y ∷ ys) size same = absurd (omega (arith, size))
any_same (x ∷ xs) [] size same = absurd (omega (arith, size))
any_same (x ∷ xs) (y ∷ ys) size same =
    let first : x.items ≡ y.items = same 0 x (omega arith) in
    let others = any_same xs ys (omega (arith, size)) (λ c none lt. same (suc c) none (omega (arith, lt))) in
    ap (λ (l : List Line). list_any can_fill l || list_any has_one xs) first ∙ ap (λ (b : Bool). list_any can_fill y.items || b) others

fill_same : (p q : Plan) (said : Said) → HasAll p said → HasAll q said → can_fill_logs q ≡ can_fill_logs p
fill_same p q said a b =
    let setup : q.setup.items ≡ p.setup.items = b.setup ∙ sym a.setup in
    let each : (c : ℕ) (none : Vec Line Global) → c < length q.clients.items → (slice_index_or q.clients.items c none).items ≡ (slice_index_or p.clients.items c none).items
    = λ c none lt. let few : c < 16 = omega (arith, lt, b.clients) in b.calls c none few ∙ sym (a.calls c none few) in
    let clients = any_same q.clients.items p.clients.items (b.clients ∙ sym a.clients) each in
    ap (λ (l : List Line). list_any can_fill l || list_any has_one q.clients.items) setup ∙ ap (λ (b : Bool). list_any can_fill p.setup.items || b) clients

-- no file that is there ends a run

file_at : (files : Option Files) (lines : List Line) (place : ℕ) (k : SubId) (name : List ℕ) → AllByRecursion (HasFile files) lines → slice_get lines place ≡ Some (Feed k name) → IsOnShelf files name
file_at files [] zero k name all at = absurd (cc)
file_at files [] (suc i) k name all at = absurd (cc)
file_at files (line ∷ lines) zero k name all at = let is : line ≡ Feed k name = cc in subst (λ (l : Line). HasFile files l) is all.0
file_at files (line ∷ lines) (suc i) k name all at = file_at files lines i k name all.1 at

no_file_end : (name : List ℕ) (found : Option (List ℕ)) (s : Status) → IsWavFile found → IsFileEnd name found s → ⊥
no_file_end name None s wav h = wav
no_file_end name (Some bytes) (status.Limit which.WavBytes value) wav h = omega (arith, wav.0, h.0)
no_file_end name (Some bytes) (status.BadWav named fault) wav h = not_both bytes wav.1.0 fault wav.1.1 h.2
no_file_end name (Some bytes) s wav h = h

module _ (files : Option Files) (lines : List Line) (all : AllByRecursion (HasFile files) lines) where
  fed : (s : Status) (f : IsFeedFault files lines s) → IsOnShelf files f.name
  fed s f = file_at files lines f.place f.sub f.name all (f.at ∙ ap (λ (l : Line). Some l) f.feeds)

  none_ends : (s : Status) (f : IsFeedFault files lines s) → (found : Option (List ℕ)) × Finds files f.name found × IsFileEnd f.name found s → ⊥
  none_ends s f h = no_file_end f.name h.0 s (fed s f h.0 h.1) h.2

module _ (p q : Plan) (said : Said) (has : HasAll p said) (read : HasAll q said) (files files_now : Option Files) (before now : Option (List ℕ)) (ready : IsReady files p) where
  all_there : AllByRecursion (HasFile files) q.setup.items
  all_there = subst (λ (l : List Line). AllByRecursion (HasFile files) l) (has.setup ∙ sym read.setup) ready

  pub good_run : (s : Status) → IsRunEnd q files files_now before now s → s ≢ status.WriteFault → s ≢ status.ShelfFault → IsGoodEnd p s
  good_run status.Ok h w k = tt
  good_run status.Memory h w k = tt
  good_run (status.Limit which.LogEntries value) h w k = sym (fill_same p q said has read) ∙ h.can
  good_run (status.Limit which.WavBytes value) h w k = none_ends files q.setup.items all_there (status.Limit which.WavBytes value) h.0 h.0.ended
  good_run (status.Missing name) h w k = none_ends files q.setup.items all_there (status.Missing name) h.0 h.0.ended
  good_run (status.BadWav name fault) h w k = none_ends files q.setup.items all_there (status.BadWav name fault) h.0 h.0.ended
  good_run status.WriteFault h w k = w refl
  good_run status.ShelfFault h w k = k refl
  good_run _ h w k = h

-- a plan that was refused was read all the same, and memory ran out
pub good_refusal : (p : Plan) (said : Said) (fault : PlanError) → Gives (Err fault) (Whole said) → fault ≢ error.Read → IsGoodEnd p (status_of fault)
good_refusal p said error.Memory g read = tt
good_refusal p said error.Read g read = absurd (read refl)
good_refusal p said (error.BadLine number fault) g read = absurd g
good_refusal p said (error.Limit which value) g read = absurd g
