-- The call of a line of a client's plan.
use Rattle.std.proofs.Common.{◌≡◌, ◌<◌, ◌≤◌, ℕ, Bool, true, false, nat_lt, List, [], Some, None, refl, sym, ap, ◌∙◌, subst, arith}
use Rattle.std.specs.declared.option.Option.{Option}
use Rattle.std.proofs.lemmas.Bool.Decides.{nat_tests}
use Rattle.pcm_base.specs.declared.call.Call.{Call}
use Rattle.pcm_base.specs.declared.call.Call.TheVariants as call
use Rattle.pcm_base.specs.declared.call.Event.{Event}
use Rattle.pcm_base.specs.declared.ids.ClientId.{ClientId}
use Rattle.pcm_group.specs.Turn.{is_card_event, is_group_call}
use Rattle.pcm_line.specs.Sayable.{BytesOnlyWhereTaken, IsCaller, is_of_card}
use Rattle.live_plan.specs.Said.{is_client}
use Rattle.live_plan.specs.Sound.{IsPlanned}
use Rattle.live_work.specs.Calls.{IsOwnCall}
use Rattle.live_work.specs.Runs.{io_of}

same_events : (c : Call) → is_of_card c ≡ is_card_event c
same_events (call.MoveBy n) = refl
same_events call.Irq = refl
same_events (call.FailAt k) = refl
same_events call.Give = refl
same_events call.Unplug = refl
same_events _ = refl

-- a line of a client is no event of a card, and the client is one of sixteen

no_event : (b : Bool) (o : Option ClientId) (c : ClientId) → IsCaller b o → o ≡ Some c → b ≡ false
no_event true None c h e = absurd (cc)
no_event true (Some d) c h e = absurd h
no_event false o c h e = refl

small : (b : Bool) (o : Option ClientId) (c : ClientId) → IsCaller b o → o ≡ Some c → c.0 ≤ 15
small true None c h e = absurd (cc)
small true (Some d) c h e = absurd h
small false None c h e = absurd h
small false (Some d) c h e = let same : d ≡ c = cc in subst (λ (y : ClientId). y.0 ≤ 15) same (omega (arith, h))

client_is : (c : ClientId) (o : Option ClientId) → is_client c.0 o ≡ true → o ≡ Some c
client_is c None h = absurd (cc)
client_is c (Some d) h =
    let same : d.0 ≡ c.0 = grind (arith, nat_tests, h) in
    ap (λ (n : ℕ). (let j : ClientId = record { 0 = n } in Some j)) same

card_is : (s cards : ℕ) → nat_lt s cards ≡ true → s < cards
card_is s cards h = grind (arith, nat_tests, h)

pub own_call : (cards : ℕ) (c : ClientId) (e : Event) (bytes : List ℕ) → IsPlanned cards e bytes → is_client c.0 e.client ≡ true → IsOwnCall cards c e
own_call cards c e bytes planned h =
    let by = client_is c e.client h in
    record {
      by = by;
      few = small (is_of_card e.call) e.client c planned.sayable.caller by;
      card = card_is e.sub.0 cards planned.declared;
      kind = sym (same_events e.call) ∙ no_event (is_of_card e.call) e.client c planned.sayable.caller by;
    }

-- a link and an unlink are handed no bytes
pub no_bytes : (c : Call) (bytes : List ℕ) → BytesOnlyWhereTaken c bytes → is_group_call c ≡ false → io_of c bytes ≡ []
no_bytes (call.Link j) bytes h f = h
no_bytes call.Unlink bytes h f = h
no_bytes _ bytes h f = absurd (cc)

-- the Go of a call is a call of the same client
pub own_go : (cards : ℕ) (c : ClientId) (e : Event) → IsOwnCall cards c e → IsOwnCall cards c (record e { call = call.Go })
own_go cards c e own = record { by = own.by; few = own.few; card = own.card; kind = refl }
