-- The lines of a setup, and what is made of them.
use Rattle.std.proofs.Common.{◌≡◌, ◌<◌, ◌+◌, ℕ, zero, suc, List, [], ◌∷◌, ◌++◌, length, take, get_or, slice_get, Some, None, Result, Ok, Err, OnOk, inl, inr, refl, sym, ap, ◌∙◌, subst, append-nil, append_assoc, arith}
use Rattle.std.specs.declared.option.Option.{Option}
use Rattle.std.proofs.lemmas.List.{take_more}
use Rattle.std.proofs.lemmas.Option.{slice_get-get_or}
use Rattle.pcm_base.specs.declared.call.Event.{Event}
use Rattle.pcm_base.specs.declared.config.CardModel.{CardModel}
use Rattle.pcm_base.specs.declared.config.Config.{Config}
use Rattle.pcm_base.specs.declared.config.Model.{Model}
use Rattle.pcm_base.specs.declared.ids.SubId.{SubId}
use Rattle.pcm_base.specs.declared.reply.Reply.{Reply}
use Rattle.pcm_base.specs.declared.state.Dir.{Dir}
use Rattle.pcm_io.specs.Shelf.{Files, Stay}
use Rattle.pcm_line.specs.declared.line.Line.{Line}
use Rattle.pcm_line.specs.declared.line.Line.TheVariants as the_line
use Rattle.pcm_text.specs.declared.status.Status.{Status}
use Rattle.pcm_text.specs.declared.status.Status.TheVariants as status
use Rattle.room_parts.specs.Passes.{PassView}
use Rattle.wav_file.specs.Recordings.{Recording}
use Rattle.live_work.specs.Runs.{io_of}
use Rattle.live_top.specs.Callers.{Answered}
use Rattle.live_top.specs.Files.{Finds, IsFileEnd, IsLoadEnd, IsLoaded}
use Rattle.live_top.specs.Passes.{AreWhose, HaveCalled}
use Rattle.live_top.specs.Setup.{Before, HaveFed, HaveSetUpFirst, HaveSetUpTo, IsFeedFault, IsFeedOf, IsSetupHalt, IsSetupOf, config_fed, config_to_feed, directions, known, learned}
use Rattle.live_top.specs.declared.halt.Halt.{Halt}
use Rattle.live_top.specs.declared.halt.Halt.TheVariants.{Full, Ended}
use Rattle.live_top.specs.declared.told.Stage.{Stage}
use Rattle.live_top.proofs.SetupPasses.{both_have, none_have}

-- the calls of lines, and then those of others
pub setup_both : (dirs : List Dir) (files : Option Files) (told mid now : List Stage) (lines others : List Line) (calls more : List Answered) → IsSetupOf dirs files told lines calls mid → IsSetupOf dirs files mid others more now
    → IsSetupOf dirs files told (lines ++ others) (calls ++ more) now
setup_both dirs files told mid now [] others calls more a b =
    subst (λ (cs : List Answered). IsSetupOf dirs files told others (cs ++ more) now) (sym a.0) (subst (λ (t : List Stage). IsSetupOf dirs files t others more now) a.1 b)
setup_both dirs files told mid now (the_line.Event e bytes ∷ lines) others calls more a b =
    (a.0, a.1 ++ more, ap (λ (cs : List Answered). cs ++ more) a.2, setup_both dirs files (learned told e a.0) mid now lines others a.1 more a.3 b)
setup_both dirs files told mid now (the_line.Feed k name ∷ lines) others calls more a b =
    (a.0, a.1 ++ more, ap (λ (cs : List Answered). cs ++ more) a.2 ∙ append_assoc a.0 a.1 more, a.3, setup_both dirs files told mid now lines others a.1 more a.4 b)
setup_both dirs files told mid now (line ∷ lines) others calls more a b = absurd a

-- What is told of files that stay was so of those before.

finds_back : (files now : Option Files) (name : List ℕ) (found : Option (List ℕ)) → Stay files now → Finds now name found → Finds files name found
finds_back None now name found s f = tt
finds_back (Some x) None name found s f = absurd s
finds_back (Some x) (Some y) name found s f = subst (λ (z : Files). Finds (Some z) name found) s f

loaded_back : (files now : Option Files) (name : List ℕ) (r : Recording) → Stay files now → IsLoaded now name r → IsLoaded files name r
loaded_back files now name r s l = record { bytes = l.bytes; found = finds_back files now name (Some l.bytes) s l.found; few = l.few; says = l.says }

file_back : (files now : Option Files) (name : List ℕ) (s : Status) → Stay files now → (found : Option (List ℕ)) × Finds now name found × IsFileEnd name found s
    → (found : Option (List ℕ)) × Finds files name found × IsFileEnd name found s
file_back files now name s stay h = (h.0, finds_back files now name h.0 stay h.1, h.2)

end_back : (files now : Option Files) (name : List ℕ) (s : Status) → Stay files now → IsLoadEnd now name s → IsLoadEnd files name s
end_back files now name status.ShelfFault stay h = tt
end_back files now name status.Memory stay h = tt
end_back files now name s stay h = file_back files now name s stay h

feed_back : (files now : Option Files) (k : SubId) (name : List ℕ) (config : Option Config) (own : List Answered) → Stay files now → IsFeedOf now k name config own → IsFeedOf files k name config own
feed_back files now k name None own s f = f
feed_back files now k name (Some c) own s f = (f.0, loaded_back files now name f.0 s f.1, f.2)

pub setup_back : (dirs : List Dir) (files now : Option Files) (told after : List Stage) (lines : List Line) (calls : List Answered) → Stay files now → IsSetupOf dirs now told lines calls after → IsSetupOf dirs files told lines calls after
setup_back dirs files now told after [] calls s a = a
setup_back dirs files now told after (the_line.Event e bytes ∷ lines) calls s a = (a.0, a.1, a.2, setup_back dirs files now (learned told e a.0) after lines a.1 s a.3)
setup_back dirs files now told after (the_line.Feed k name ∷ lines) calls s a =
    (a.0, a.1, a.2, feed_back files now k name (config_fed (slice_get dirs k.0) (known (slice_get told k.0))) a.0 s a.3, setup_back dirs files now told after lines a.1 s a.4)
setup_back dirs files now told after (line ∷ lines) calls s a = absurd a

pub stay_then : (a b c : Option Files) → Stay a b → Stay b c → Stay a c
stay_then None b c x y = tt
stay_then (Some f) None c x y = absurd x
stay_then (Some f) (Some g) None x y = absurd y
stay_then (Some f) (Some g) (Some h) x y = y ∙ x

-- the configuration that a feed looks at, by the cards and what is told

dir_at : (all : List (Model × Dir)) (i : ℕ) (d : Model × Dir) → i < length all → slice_get (directions all) i ≡ Some ((get_or all i d).1)
dir_at [] i d lt = absurd (omega (arith, lt))
dir_at (c ∷ all) zero d lt = refl
dir_at (c ∷ all) (suc i) d lt = dir_at all i d (omega (arith, lt))

pub fed_at : (all : List (Model × Dir)) (t : Stage) (i k : ℕ) (d : Model × Dir) (o : Option Config) → i ≡ k → k < length all → o ≡ config_to_feed (get_or all i d).1 t → o ≡ config_fed (slice_get (directions all) k) t
fed_at all t i k d o is lt e =
    e ∙ ap (λ (n : ℕ). config_to_feed (get_or all n d).1 t) is ∙ ap (λ (w : Option Dir). config_fed w t) (sym (dir_at all k d lt))

pub on_ok : {A E : Type 0} {P Q : Type 0} (r : Result A E) → (P → Q) → OnOk r P → OnOk r Q
on_ok (Ok x) f h = f h
on_ok (Err e) f h = tt

-- the load of a feed ends so
pub fed_halt : (files : Option Files) (k : SubId) (name : List ℕ) (s : Status) → IsLoadEnd files name s → IsSetupHalt files (the_line.Feed k name ∷ []) (Ended s)
fed_halt files k name s h = inr (record { name = name; sub = k; line = the_line.Feed k name; feeds = refl; place = 0; at = refl; ended = h })

-- a halt of one line is one of all

only : (x y : Line) (i : ℕ) → slice_get (x ∷ []) i ≡ Some y → Some x ≡ Some y
only x y zero at = at
only x y (suc i) at = absurd (cc)

fault_of : (files now : Option Files) (lines : List Line) (i : ℕ) (d : Line) (s : Status) → i < length lines → Stay files now → IsFeedFault now (get_or lines i d ∷ []) s → IsFeedFault files lines s
fault_of files now lines i d s lt stay f = record {
  name = f.name;
  sub = f.sub;
  line = f.line;
  feeds = f.feeds;
  place = i;
  at = slice_get-get_or lines i d lt ∙ only (get_or lines i d) f.line f.place f.at;
  ended = end_back files now f.name s stay f.ended;
}

pub halt_of : (files now : Option Files) (lines : List Line) (i : ℕ) (line d : Line) (h : Halt) → i < length lines → line ≡ get_or lines i d → Stay files now → IsSetupHalt now (line ∷ []) h → IsSetupHalt files lines h
halt_of files now lines i line d Full lt is stay a = tt
halt_of files now lines i line d (Ended s) lt is stay (inl a) = inl a
halt_of files now lines i line d (Ended s) lt is stay (inr a) = inr (fault_of files now lines i d s lt stay (subst (λ (l : Line). IsFeedFault now (l ∷ []) s) is a))

module _ (cards : List (CardModel × Dir)) (long_max count : ℕ) where
  -- no line was made
  pub none_set_up : (b : Before) (clients of_cards : List PassView) → HaveSetUpTo cards long_max b [] b.told clients clients of_cards of_cards
  none_set_up b clients of_cards = ([], (refl, refl), none_have cards long_max clients of_cards)

  -- an event was made
  pub event_set_up : (b : Before) (e : Event) (bytes : List ℕ) (r : Reply) (now : List Stage) (cs ds ks ls : List PassView) → now ≡ learned b.told e r
      → HaveCalled cards long_max (record { call = record { event = e; io = io_of e.call bytes }; reply = r } ∷ []) cs ds ks ls → HaveSetUpTo cards long_max b (the_line.Event e bytes ∷ []) now cs ds ks ls
  event_set_up b e bytes r now cs ds ks ls is h = (record { call = record { event = e; io = io_of e.call bytes }; reply = r } ∷ [], (r, [], refl, (refl, is)), h)

  -- a feed was made, by what is told
  pub feed_set_up : (b : Before) (k : SubId) (name : List ℕ) (config : Option Config) (cs ds ks ls : List PassView) → config ≡ config_fed (slice_get b.dirs k.0) (known (slice_get b.told k.0))
      → HaveFed cards long_max b.files k name config cs ds ks ls → HaveSetUpTo cards long_max b (the_line.Feed k name ∷ []) b.told cs ds ks ls
  feed_set_up b k name config cs ds ks ls is h =
      (h.0, (h.0, [], sym (append-nil h.0), subst (λ (c : Option Config). IsFeedOf b.files k name c h.0) is h.1, (refl, refl)), h.2)

  -- the first i lines were made, and then the next one
  pub next_set_up : (b : Before) (here : Option Files) (mid now : List Stage) (lines : List Line) (i : ℕ) (line d : Line) (cs ds es ks ls ms : List PassView) → i < length lines → line ≡ get_or lines i d → Stay b.files here
      → AreWhose count cs ks → AreWhose count ds ls → HaveSetUpTo cards long_max b (take i lines) mid cs ds ks ls
      → HaveSetUpTo cards long_max (record { dirs = b.dirs; files = here; told = mid }) (line ∷ []) now ds es ls ms
      → HaveSetUpTo cards long_max b (take (i + 1) lines) now cs es ks ms
  next_set_up b here mid now lines i line d cs ds es ks ls ms lt is stay v w a n =
      let one = subst (λ (l : Line). IsSetupOf b.dirs b.files mid (l ∷ []) n.0 now) is (setup_back b.dirs b.files here mid now (line ∷ []) n.0 stay n.1) in
      let both = setup_both b.dirs b.files b.told mid now (take i lines) (get_or lines i d ∷ []) a.0 n.0 a.1 one in
      (a.0 ++ n.0, subst (λ (ls : List Line). IsSetupOf b.dirs b.files b.told ls (a.0 ++ n.0) now) (sym (take_more lines i d lt)) both, both_have cards long_max count a.0 n.0 cs ds es ks ls ms v w a.2 n.2)

  -- no more than the first i lines were made
  pub first_set_up : (b : Before) (mid : List Stage) (lines : List Line) (i : ℕ) (cs ds es ks ls ms : List PassView) → AreWhose count cs ks → AreWhose count ds ls
      → HaveSetUpTo cards long_max b (take i lines) mid cs ds ks ls → HaveCalled cards long_max [] ds es ls ms → HaveSetUpFirst cards long_max b lines cs es ks ms
  first_set_up b mid lines i cs ds es ks ls ms v w a none =
      (i, (mid, (a.0, a.1, subst (λ (xs : List Answered). HaveCalled cards long_max xs cs es ks ms) (append-nil a.0) (both_have cards long_max count a.0 [] cs ds es ks ls ms v w a.2 none))))
