-- Runs of lines grow by a line at the end.
use Rattle.std.proofs.Common.{◌≡◌, ◌<◌, ◌+◌, ◌⊎◌, ℕ, zero, suc, List, [], ◌∷◌, ◌++◌, length, take, get_or, inl, inr, refl, sym, ap, ◌∙◌, subst, arith, append-nil, append_assoc}
use Rattle.std.specs.List.{AllByRecursion}
use Rattle.std.proofs.lemmas.List.{take_more}
use Rattle.pcm_base.specs.declared.call.Event.{Event}
use Rattle.pcm_base.specs.declared.config.CardModel.{CardModel}
use Rattle.pcm_base.specs.declared.state.Dir.{Dir}
use Rattle.pcm_line.specs.declared.line.Line.{Line}
use Rattle.pcm_line.specs.declared.line.Line.TheVariants as the_line
use Rattle.room_parts.specs.Passes.{PassView}
use Rattle.live_work.specs.Called.{Call, HasCalled}
use Rattle.live_work.specs.Runs.{AreCallsOf, AreCallsOfLine, AreGosOf, HasCarriedOn, HasRun, HasRunFirst, HasRunLine, IsHandedAgain, go_of, io_of}
use Rattle.live_work.proofs.Called.{both_called, none_after, none_called}

pub all_at : {A : Type 0} (P : A → Type 0) (xs : List A) (i : ℕ) (d : A) → i < length xs → AllByRecursion P xs → P (get_or xs i d)
all_at P [] i d lt all = absurd (omega arith)
all_at P (x ∷ xs) zero d lt all = all.0
all_at P (x ∷ xs) (suc i) d lt all = all_at P xs i d (omega arith) all.1

one_more : (lines : List Line) (calls : List Call) (line : Line) (own : List Call) → AreCallsOf lines calls → AreCallsOfLine line own → AreCallsOf (lines ++ line ∷ []) (calls ++ own)
one_more [] calls line own e a = (own, [], ap (λ (cs : List Call). cs ++ own) e ∙ sym (append-nil own), a, refl)
one_more (l ∷ ls) calls line own r a = (r.0, r.1 ++ own, ap (λ (cs : List Call). cs ++ own) r.2 ∙ append_assoc r.0 r.1 own, r.3, one_more ls r.1 line own r.4 a)

-- one more that carries the call on
gos_more : (e : Event) (io : List ℕ) (gos : List Call) (go : Call) → AreGosOf e io gos → go.event ≡ go_of e → IsHandedAgain e.call io go.io → AreGosOf e io (gos ++ go ∷ [])
gos_more e io [] go a is again = (is, again, tt)
gos_more e io (c ∷ gos) go a is again = (a.0, a.1, gos_more e io gos go a.2 is again)

module _ (cards : List (CardModel × Dir)) (long_max : ℕ) where
  pub run_none : (p : PassView) → HasRun cards long_max [] p p
  run_none p = ([], refl, none_called cards long_max p)

  -- the pass has run i lines, and then the next one
  run_more : (lines : List Line) (i : ℕ) (d : Line) (p q r : PassView) → i < length lines → HasRun cards long_max (take i lines) p q → HasRunLine cards long_max (get_or lines i d) q r → HasRun cards long_max (take (i + 1) lines) p r
  run_more lines i d p q r lt a b =
      let both = one_more (take i lines) a.0 (get_or lines i d) b.0 a.1 b.1 in
      (a.0 ++ b.0, subst (λ (ls : List Line). AreCallsOf ls (a.0 ++ b.0)) (sym (take_more lines i d lt)) both, both_called cards long_max a.0 b.0 p q r a.2 b.2)

  pub run_next : (lines : List Line) (i : ℕ) (line d : Line) (p q r : PassView) → i < length lines → line ≡ get_or lines i d → HasRun cards long_max (take i lines) p q → HasRunLine cards long_max line q r → HasRun cards long_max (take (i + 1) lines) p r
  run_next lines i line d p q r lt is a b = run_more lines i d p q r lt a (subst (λ (l : Line). HasRunLine cards long_max l q r) is b)

  -- nothing of the next one was run, or its call was made
  pub run_part : (lines : List Line) (i : ℕ) (line d : Line) (p q r : PassView) → i < length lines → line ≡ get_or lines i d → HasRun cards long_max (take i lines) p q
      → HasCalled cards long_max [] q r ⊎ HasRunLine cards long_max line q r → HasRunFirst cards long_max lines p r
  run_part lines i line d p q r lt is a (inl none) = (i, (a.0, a.1, none_after cards long_max a.0 p q r a.2 none))
  run_part lines i line d p q r lt is a (inr b) = (i + 1, run_next lines i line d p q r lt is a b)

  -- nothing has carried the call on

  pub carried_none : (e : Event) (io : List ℕ) (p : PassView) → HasCarriedOn cards long_max e io p p
  carried_none e io p = ([], tt, none_called cards long_max p)

  pub carried_still : (e : Event) (io : List ℕ) (p q r : PassView) → HasCarriedOn cards long_max e io p q → HasCalled cards long_max [] q r → HasCarriedOn cards long_max e io p r
  carried_still e io p q r was none = (was.0, was.1, none_after cards long_max was.0 p q r was.2 none)

  -- it is carried on once more
  pub carried : (e : Event) (io now : List ℕ) (p q r : PassView) → HasCarriedOn cards long_max e io p q → IsHandedAgain e.call io now
      → HasCalled cards long_max ((let c : Call = record { event = go_of e; io = now } in c) ∷ []) q r → HasCarriedOn cards long_max e io p r
  carried e io now p q r was again did =
      let go : Call = record { event = go_of e; io = now } in
      (was.0 ++ go ∷ [], gos_more e io was.0 go was.1 refl again, both_called cards long_max was.0 (go ∷ []) p q r was.2 did)

  -- the call of a line, and those that carry it on
  pub line_run : (line : Line) (e : Event) (bytes again io : List ℕ) (p q r : PassView) → line ≡ the_line.Event e bytes → io ≡ io_of e.call bytes → again ≡ bytes
      → HasCalled cards long_max ((let c : Call = record { event = e; io = io } in c) ∷ []) p q → HasCarriedOn cards long_max e (io_of e.call again) q r → HasRunLine cards long_max line p r
  line_run line e bytes again io p q r says is same a b =
      let first : Call = record { event = e; io = io_of e.call bytes } in
      let made = subst (λ (z : List ℕ). HasCalled cards long_max ((let c : Call = record { event = e; io = z } in c) ∷ []) p q) is a in
      let gos = subst (λ (z : List ℕ). HasCarriedOn cards long_max e (io_of e.call z) q r) same b in
      subst (λ (l : Line). HasRunLine cards long_max l p r) (sym says) (first ∷ gos.0, (gos.0, refl, gos.1), both_called cards long_max (first ∷ []) gos.0 p q r made gos.2)
