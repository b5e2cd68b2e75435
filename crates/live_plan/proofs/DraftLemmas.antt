-- What a draft says is wrong with a line is wrong with it behind the lines that it stands for.
use Rattle.std.proofs.Common.{◌≡◌, ◌==◌, ℕ, Bool, ◌&&◌, List, length, None, sym, ◌∙◌, ap, nat_lt}
use Rattle.std.specs.declared.option.Option.{Option}
use Rattle.pcm_base.specs.declared.ids.SubId.{SubId}
use Rattle.pcm_base.specs.declared.config.Model.{Model}
use Rattle.pcm_base.specs.declared.state.Dir.{Dir}
use Rattle.pcm_base.specs.declared.call.Event.{Event as CoreEvent}
use Rattle.pcm_line.specs.declared.error.LineError.{LineError}
use Rattle.pcm_line.specs.declared.line.Line.{Line}
use Rattle.pcm_line.specs.declared.line.Line.TheVariants.{Card, Event, Feed, Save, Beat, Threads}
use Rattle.live_plan.specs.declared.draft.Draft.{Draft}
use Rattle.live_plan.specs.declared.part.Part.{Part}
use Rattle.live_plan.specs.Draft.{StandsFor}
use Rattle.live_plan.specs.Rules.{unless, out_of_place, card_fault, event_fault, sub_fault, beat_fault, fault_of}
use Rattle.live_plan.specs.Said.{Said, part_of, card_count, setup_of, beats_of, is_setup, is_end}
use Rattle.live_plan.proofs.SoundLemmas.{count_cards}

card_number : (draft : Draft) (said : Said) (cards : ℕ) → StandsFor draft said → cards ≡ length draft.plan.cards.items → cards ≡ card_count said
card_number draft said cards stands n = n ∙ (ap length stands.has.cards ∙ count_cards said)

-- the line is the one that was matched
of_line : (said : Said) (line : Line) (bytes : List ℕ) (known : Line) (r : Option LineError) → line ≡ known → r ≡ fault_of said known bytes → r ≡ fault_of said line bytes
of_line said line bytes known r is e = e ∙ ap (λ (l : Line). fault_of said l bytes) (sym is)

pub of_card : (draft : Draft) (said : Said) (line : Line) (bytes : List ℕ) (s : SubId) (m : Model) (d : Dir) (early : Bool) (cards : ℕ) (r : Option LineError) → StandsFor draft said → line ≡ Card s m d
    → early ≡ (length draft.plan.setup.items == 0) → cards ≡ length draft.plan.cards.items → r ≡ card_fault draft.part early cards s bytes → r ≡ fault_of said line bytes
of_card draft said line bytes s m d early cards r stands is first n e =
    of_line said line bytes (Card s m d) r is
    (e ∙ ap (λ (p : Part). card_fault p early cards s bytes) stands.part
    ∙ ap (λ (b : Bool). card_fault (part_of said) b cards s bytes) (first ∙ ap (λ (l : List Line). length l == 0) stands.has.setup)
    ∙ ap (λ (k : ℕ). card_fault (part_of said) (length (setup_of said) == 0) k s bytes) (card_number draft said cards stands n))

pub of_event : (draft : Draft) (said : Said) (line : Line) (bytes taken : List ℕ) (event : CoreEvent) (cards : ℕ) (r : Option LineError) → StandsFor draft said → line ≡ Event event taken
    → cards ≡ length draft.plan.cards.items → r ≡ event_fault draft.part cards event bytes → r ≡ fault_of said line bytes
of_event draft said line bytes taken event cards r stands is n e =
    of_line said line bytes (Event event taken) r is
    (e ∙ ap (λ (p : Part). event_fault p cards event bytes) stands.part ∙ ap (λ (k : ℕ). event_fault (part_of said) k event bytes) (card_number draft said cards stands n))

pub of_feed : (draft : Draft) (said : Said) (line : Line) (bytes name : List ℕ) (s : SubId) (here : Bool) (cards : ℕ) (r : Option LineError) → StandsFor draft said → line ≡ Feed s name
    → here ≡ is_setup draft.part → cards ≡ length draft.plan.cards.items → r ≡ sub_fault here cards s bytes → r ≡ fault_of said line bytes
of_feed draft said line bytes name s here cards r stands is p n e =
    of_line said line bytes (Feed s name) r is
    (e ∙ ap (λ (b : Bool). sub_fault b cards s bytes) (p ∙ ap is_setup stands.part) ∙ ap (λ (k : ℕ). sub_fault (is_setup (part_of said)) k s bytes) (card_number draft said cards stands n))

pub of_save : (draft : Draft) (said : Said) (line : Line) (bytes name : List ℕ) (s : SubId) (here : Bool) (cards : ℕ) (r : Option LineError) → StandsFor draft said → line ≡ Save s name
    → here ≡ is_end draft.part → cards ≡ length draft.plan.cards.items → r ≡ sub_fault here cards s bytes → r ≡ fault_of said line bytes
of_save draft said line bytes name s here cards r stands is p n e =
    of_line said line bytes (Save s name) r is
    (e ∙ ap (λ (b : Bool). sub_fault b cards s bytes) (p ∙ ap is_end stands.part) ∙ ap (λ (k : ℕ). sub_fault (is_end (part_of said)) k s bytes) (card_number draft said cards stands n))

pub of_beat : (draft : Draft) (said : Said) (line : Line) (bytes : List ℕ) (s : SubId) (frames count cards : ℕ) (beats : List Line) (r : Option LineError) → StandsFor draft said → line ≡ Beat s frames count
    → cards ≡ length draft.plan.cards.items → beats ≡ draft.plan.beats.items → r ≡ beat_fault draft.part cards beats s bytes → r ≡ fault_of said line bytes
of_beat draft said line bytes s frames count cards beats r stands is n b e =
    of_line said line bytes (Beat s frames count) r is
    (e ∙ ap (λ (p : Part). beat_fault p cards beats s bytes) stands.part ∙ ap (λ (l : List Line). beat_fault (part_of said) cards l s bytes) (b ∙ stands.has.beats)
    ∙ ap (λ (k : ℕ). beat_fault (part_of said) k (beats_of said) s bytes) (card_number draft said cards stands n))

pub of_threads : (draft : Draft) (said : Said) (line : Line) (bytes : List ℕ) (cards : ℕ) (r : Option LineError) → StandsFor draft said → line ≡ Threads
    → cards ≡ length draft.plan.cards.items → r ≡ unless (is_setup draft.part && nat_lt 0 cards) out_of_place None → r ≡ fault_of said line bytes
of_threads draft said line bytes cards r stands is n e =
    of_line said line bytes Threads r is
    (e ∙ ap (λ (p : Part). unless (is_setup p && nat_lt 0 cards) out_of_place None) stands.part
    ∙ ap (λ (k : ℕ). unless (is_setup (part_of said) && nat_lt 0 k) out_of_place None) (card_number draft said cards stands n))
