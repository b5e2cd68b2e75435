-- What an event asks of the world, and the bytes that stand in its line.
use Rattle.std.proofs.Common.{◌≡◌, ℕ, ◌≤◌, Bool, true, false, ◌&&◌, ◌||◌, nat_eq, List, [], Some, None, refl, sym, ◌∙◌, ap, subst, arith}
use Rattle.std.specs.Prelude.{if◌then◌else◌, OnOk, Result}
use Rattle.std.specs.declared.alloc.AllocError.{AllocError}
use Rattle.std.specs.Option.{ForSome, is_none}
use Rattle.std.specs.declared.option.Option.{Option}
use Rattle.std.proofs.lemmas.Bool.Decides.{nat_tests}
use Rattle.pcm_base.specs.declared.call.Call.{Call}
use Rattle.pcm_base.specs.declared.call.Call.TheVariants as call
use Rattle.pcm_base.specs.declared.call.Event.{Event}
use Rattle.pcm_base.specs.declared.ids.ClientId.{ClientId}
use Rattle.pcm_base.specs.declared.ids.SubId.{SubId}
use Rattle.pcm_base.specs.model.World.{World as ModelWorld, Told}
use Rattle.pcm_group.specs.Turn.{is_card_event}
use Rattle.pcm_line.specs.Sayable.{IsCaller, IsSubOf, IsSayableEvent, OperandsFit, is_of_card}
use Rattle.pcm_world.specs.declared.world.World.{World}
use Rattle.pcm_world.specs.Shown.{is_frames, moved_after, moved_in, result_after, result_in, second_of}
use Rattle.pcm_line.specs.declared.line.Line.TheVariants.{Event as EventLine}
use Rattle.pcm_top.specs.CodeSession.{Keeps, bytes_in}
use Rattle.pcm_top.specs.Run.{bytes_shown, reads_by, run_line, takes_by}
use Rattle.pcm_top.specs.Session.{Session}
use Rattle.pcm_top.specs.declared.session.Session.{Session as Kept}

-- ---- an event that a line can say

same-events : (e : Call) → is_of_card e ≡ is_card_event e
same-events (call.MoveBy n) = refl
same-events call.Irq = refl
same-events (call.FailAt k) = refl
same-events call.Give = refl
same-events call.Unplug = refl
same-events _ = refl

caller-as : (b : Bool) (o : Option ClientId) → IsCaller b o → b ≡ is_none o
caller-as true None h = refl
caller-as true (Some c) h = absurd h
caller-as false None h = absurd h
caller-as false (Some c) h = refl

pub sayable-caller : (e : Event) (bytes : List ℕ) → IsSayableEvent e bytes → is_card_event e.call ≡ is_none e.client
sayable-caller e bytes h = sym (same-events e.call) ∙ caller-as (is_of_card e.call) e.client h.caller

client-below : (b : Bool) (o : Option ClientId) → IsCaller b o → ForSome o (λ c. c.0 ≤ 15)
client-below true None h = λ x e. cc
client-below true (Some c) h = absurd h
client-below false None h = absurd h
client-below false (Some c) h = λ x e. let same : c ≡ x = cc in subst (λ (y : ClientId). y.0 ≤ 15) same (omega (arith, h))

pub sayable-client : (e : Event) (bytes : List ℕ) → IsSayableEvent e bytes → ForSome e.client (λ c. c.0 ≤ 15)
sayable-client e bytes h = client-below (is_of_card e.call) e.client h.caller

sub-below : (e : Call) (k : SubId) → IsSubOf e k → k.0 ≤ 15
sub-below call.Go k h = omega (arith, h)
sub-below _ k h = omega (arith, h)

pub sayable-sub : (e : Event) (bytes : List ℕ) → IsSayableEvent e bytes → e.sub.0 ≤ 15
sayable-sub e bytes h = sub-below e.call e.sub h.sub

second-below : (e : Call) (k : SubId) → k.0 ≤ 15 → OperandsFit e → (second_of e k).0 ≤ 15
second-below (call.Link j) k first h = omega (arith, h)
second-below _ k first h = first

pub sayable-second : (e : Event) (bytes : List ℕ) → IsSayableEvent e bytes → (second_of e.call e.sub).0 ≤ 15
sayable-second e bytes h = second-below e.call e.sub (sayable-sub e bytes h) h.operands

-- ---- the bytes of its line

same-number : (n : ℕ) → nat_eq n n ≡ true
same-number n = grind (arith, nat_tests)

-- what a card took in this event
taken-here : (m b : Bool) (n : ℕ) (bytes here : List ℕ) → here ≡ (if m && nat_eq n n then bytes else []) → (m && b) ≡ true → here ≡ bytes
taken-here true b n bytes here e h = e ∙ ap (λ (x : Bool). if x then bytes else []) (same-number n)
taken-here false b n bytes here e h = cc

-- what its client has read
read-here : (n : ℕ) (r : Bool) (bytes old here : List ℕ) → here ≡ (if nat_eq n n && r then bytes else old) → r ≡ true → here ≡ bytes
read-here n r bytes old here e h = e ∙ ap (λ (x : Bool). if x && r then bytes else old) (same-number n) ∙ ap (λ (x : Bool). if x then bytes else old) h

by-movement : (taking : Bool) (bytes here : List ℕ) → (taking ≡ true → here ≡ bytes) → (if taking then Some here else None) ≡ (if taking then Some bytes else None)
by-movement true bytes here h = ap (λ (x : List ℕ). Some x) (h refl)
by-movement false bytes here h = refl

by-reading : (reading taking : Bool) (bytes read here : List ℕ) → (reading ≡ true → read ≡ bytes) → (taking ≡ true → here ≡ bytes)
    → (if reading then Some read else if taking then Some here else None) ≡ (if reading || taking then Some bytes else None)
by-reading true taking bytes read here r h = ap (λ (x : List ℕ). Some x) (r refl)
by-reading false taking bytes read here r h = by-movement taking bytes here h

shown-parts : (c : World) (o : Option ClientId) (k : SubId) (e : Call) (w : ModelWorld) (t : Told) (old : ClientId → List ℕ) → (let v : Event = record { client = o; sub = k; call = e } in
    ((d : ClientId) → result_in c d ≡ result_after d v w t (old d)) → moved_in c k ≡ moved_after k v t → bytes_in c v t.world (reads_by v w && is_frames t.reply) ≡ bytes_shown v w t)
shown-parts c None k e w t old read moved =
    let v : Event = record { client = None; sub = k; call = e } in
    by-movement (takes_by v t.world) t.bytes (moved_in c k) (λ h. taken-here _ _ k.0 t.bytes (moved_in c k) moved h)
shown-parts c (Some d) k e w t old read moved =
    let v : Event = record { client = Some d; sub = k; call = e } in
    by-reading (reads_by v w && is_frames t.reply) (takes_by v t.world) t.bytes (result_in c d) (moved_in c k) (λ h. read-here d.0 _ t.bytes (old d) (result_in c d) (read d) h)
    (λ h. taken-here _ _ k.0 t.bytes (moved_in c k) moved h)

pub shown-behind : (c : World) (v : Event) (w : ModelWorld) (t : Told) (old : ClientId → List ℕ) → ((d : ClientId) → result_in c d ≡ result_after d v w t (old d)) → moved_in c v.sub ≡ moved_after v.sub v t
    → bytes_in c v t.world (reads_by v w && is_frames t.reply) ≡ bytes_shown v w t
shown-behind c v w t old read moved = shown-parts c v.client v.sub v.call w t old read moved

-- the line of an event with these bytes
pub event-with : (r : Result (Unit {0}) AllocError) (k : Kept) (number : ℕ) (e : Event) (io bytes : List ℕ) (s : Session) → io ≡ bytes → OnOk r (Keeps k (run_line number (EventLine e io) s)) → OnOk r (Keeps k (run_line number (EventLine e bytes) s))
event-with r k number e io bytes s same h = subst (λ (l : List ℕ). OnOk r (Keeps k (run_line number (EventLine e l) s))) same h
