-- What a tick sends, lane by lane and peer by peer.
use Rattle.std.proofs.Common.{◌≡◌, ◌++◌, ℕ, suc, ◌+◌, ◌≤◌, ◌<◌, Bool, true, false, List, [], ◌∷◌, length, map, get_or, take, drop, refl, sym, subst, ap, ◌∙◌, append_assoc, arith}
use Rattle.std.specs.Prelude.{Option, ◌==◌, if◌then◌else◌, is_some, slice_get}
use Rattle.std.specs.List.{AllByRecursion, flat_map}
use Rattle.std.proofs.lemmas.Bool.{eq-eqb, ne_eqb}
use Rattle.std.proofs.lemmas.Grind.{flat_map-append}
use Rattle.std.proofs.lemmas.List.{append-nil, map-append}
use Rattle.ham_lane.specs.Lanes.{OutLane}
use Rattle.ham_resend.specs.Due as lanes
use Rattle.ham_resend.specs.Asking as asking
use Rattle.ham_resend.specs.declared.asks.Ask.{Ask}
use Rattle.ham_frame.specs.declared.frame.Ruling.{Ruling}
use Rattle.ham_frame.specs.declared.frame.Frame.{Frame}
use Rattle.ham_frame.specs.declared.frame.Frame.TheVariants as frames
use Rattle.ham_turns.specs.declared.turn.Out.{Out}
use Rattle.ham_turns.specs.Settings.{Setting}
use Rattle.ham_turns.specs.Words.{ReplicaWords, numbered}
use Rattle.ham_turns.specs.Sends.{peers, decided_by, open_requests, due_calls, due_requests, due_to}
use Rattle.ham_replica.specs.Shown.{no_out_lane}
use Rattle.ham_replica.specs.Ticks.{addressed, if_decided, due_to_peer}
use Rattle.ham_replica.proofs.Items.{all_at, get_map, get_any, length_map}

pub decided_more : (y : Setting) (r n : ℕ) → decided_by y r n ++ if_decided y r n ≡ decided_by y r (n + 1)
decided_more y r n = let e : suc n ≡ n + 1 = omega arith in ap (decided_by y r) e

-- frames to a peer, for one more lane or group
pub addressed_more : (y : Setting) (r n peer : ℕ) (f : ℕ → List Frame) (first : List Out) →
    (first ++ addressed peer (flat_map f (decided_by y r n))) ++ addressed peer (flat_map f (if_decided y r n)) ≡ first ++ addressed peer (flat_map f (decided_by y r (n + 1)))
addressed_more y r n peer f first =
    append_assoc first (addressed peer (flat_map f (decided_by y r n))) (addressed peer (flat_map f (if_decided y r n)))
    ∙ ap (λ l. first ++ l) (sym (map-append (λ (z : Frame). record { to = peer; frame = z }) (flat_map f (decided_by y r n)) (flat_map f (if_decided y r n)))
    ∙ ap (addressed peer) (sym (flat_map-append f (decided_by y r n) (if_decided y r n)) ∙ ap (flat_map f) (decided_more y r n)))

flat_one : {X Y : Type 0} (f : X → List Y) (x : X) → flat_map f (x ∷ []) ≡ f x
flat_one f x = append-nil (f x)

pub if_is : (y : Setting) (r l peer : ℕ) (f : ℕ → List Frame) (frames : List Frame) → y.decider l ≡ r → frames ≡ f l → addressed peer frames ≡ addressed peer (flat_map f (if_decided y r l))
if_is y r l peer f frames e is = ap (addressed peer) (is ∙ sym (flat_one f l) ∙ ap (λ b. flat_map f (if b then l ∷ [] else [])) (sym (eq-eqb _ _ e)))

pub if_not : (y : Setting) (r l peer : ℕ) (f : ℕ → List Frame) (out : List Out) → (y.decider l ≡ r → ⊥) → out ≡ out ++ addressed peer (flat_map f (if_decided y r l))
if_not y r l peer f out ne = sym (append-nil out) ∙ ap (λ b. out ++ addressed peer (flat_map f (if b then l ∷ [] else []))) (sym (ne_eqb _ _ ne))

-- a lane's calls, as the words have them
pub lane_due : (outs : List OutLane) (l peer : ℕ) (d : OutLane) → l < length outs → d ≡ get_or outs l d →
    lanes.due_calls d peer ≡ map frames.Call (take 16 (drop (get_or (get_or (map (λ (z : OutLane). z.acked) outs) l []) peer 0) (get_or (map (λ (z : OutLane). z.calls) outs) l [])))
lane_due outs l peer d h is =
    let there = is ∙ get_any outs l d no_out_lane h in
    ap (λ (z : OutLane). lanes.due_calls z peer) there
    ∙ (λ i. map frames.Call (take 16 (drop (get_or (sym (get_map (λ (z : OutLane). z.acked) outs l no_out_lane) i) peer 0) (sym (get_map (λ (z : OutLane). z.calls) outs l no_out_lane) i))))

-- requests without a verdict, as the words have them
open_is : (g : ℕ) (verdict : ℕ → Option Ruling) (n : ℕ) (made : List Ask) → ((i : ℕ) → i < length made → verdict (n + i) ≡ asking.verdict_on (slice_get made i)) →
    asking.open_from g n made ≡ open_requests g verdict n (map (λ (a : Ask). a.act) made)
open_is g verdict n [] h = refl
open_is g verdict n (a ∷ made) h =
    let first : verdict n ≡ a.verdict = ap verdict (let e : n ≡ n + 0 = omega arith in e) ∙ h 0 (omega arith) in
    let rest = open_is g verdict (n + 1) made (λ i less. ap verdict (let e : n + 1 + i ≡ n + suc i = omega arith in e) ∙ h (suc i) (omega arith)) in
    λ i. (if is_some (sym first i) then [] else frames.Request g n a.act ∷ []) ++ rest i

pub group_due : (g : ℕ) (made : List Ask) → asking.due g made ≡ take 16 (open_requests g (λ n. asking.verdict_on (numbered made n)) 1 (map (λ (a : Ask). a.act) made))
group_due g made = ap (take 16) (open_is g (λ n. asking.verdict_on (numbered made n)) 1 made (λ i less. at i))
  where
    at : (i : ℕ) → asking.verdict_on (numbered made (1 + i)) ≡ asking.verdict_on (slice_get made i)
    at i = let e : 1 + i ≡ suc i = omega arith in ap (λ n. asking.verdict_on (numbered made n)) e

-- one more peer
peer_more : (y : Setting) (w : ReplicaWords) (r n : ℕ) → flat_map (λ q. addressed q (due_to y w r q)) (if suc n == r then [] else suc n ∷ []) ≡ due_to_peer y w r (suc n)
peer_more y w r n = by_case (suc n == r)
  where
    by_case : (b : Bool) → flat_map (λ q. addressed q (due_to y w r q)) (if b then [] else suc n ∷ []) ≡ (if b then [] else addressed (suc n) (due_to y w r (suc n)))
    by_case true = refl
    by_case false = flat_one (λ q. addressed q (due_to y w r q)) (suc n)

pub all_more : (y : Setting) (w : ReplicaWords) (r n : ℕ) → flat_map (λ q. addressed q (due_to y w r q)) (peers r n) ++ due_to_peer y w r (n + 1) ≡ flat_map (λ q. addressed q (due_to y w r q)) (peers r (n + 1))
all_more y w r n =
    let e : n + 1 ≡ suc n = omega arith in
    subst (λ m. flat_map (λ q. addressed q (due_to y w r q)) (peers r n) ++ due_to_peer y w r m ≡ flat_map (λ q. addressed q (due_to y w r q)) (peers r m)) (sym e)
    (ap (λ l. flat_map (λ q. addressed q (due_to y w r q)) (peers r n) ++ l) (sym (peer_more y w r n)) ∙ sym (flat_map-append (λ q. addressed q (due_to y w r q)) (peers r n) (if suc n == r then [] else suc n ∷ [])))

pub peer_is : (y : Setting) (w : ReplicaWords) (r q : ℕ) (out : List Out) → (q ≡ r → ⊥) →
    (out ++ addressed q (flat_map (due_calls w q) (decided_by y r y.lanes))) ++ addressed q (flat_map (due_requests w) (decided_by y q y.groups)) ≡ out ++ due_to_peer y w r q
peer_is y w r q out ne =
    append_assoc out (addressed q (flat_map (due_calls w q) (decided_by y r y.lanes))) (addressed q (flat_map (due_requests w) (decided_by y q y.groups)))
    ∙ ap (λ l. out ++ l) (sym (map-append (λ (z : Frame). record { to = q; frame = z }) (flat_map (due_calls w q) (decided_by y r y.lanes)) (flat_map (due_requests w) (decided_by y q y.groups)))
    ∙ ap (λ b. if b then [] else addressed q (due_to y w r q)) (sym (ne_eqb q r ne)))

pub peer_not : (y : Setting) (w : ReplicaWords) (r q : ℕ) (out : List Out) → q ≡ r → out ≡ out ++ due_to_peer y w r q
peer_not y w r q out e = sym (append-nil out) ∙ ap (λ b. out ++ (if b then [] else addressed q (due_to y w r q))) (sym (eq-eqb q r e))

pub peer_there : (outs : List OutLane) (l peer n : ℕ) (d : OutLane) → l < length outs → d ≡ get_or outs l d → AllByRecursion (λ a. length a ≡ n + 1) (map (λ (z : OutLane). z.acked) outs) → peer ≤ n → peer < length d.acked
peer_there outs l peer n d h is all few =
    let there = is ∙ get_any outs l d no_out_lane h in
    let row = all_at (λ (a : List ℕ). length a ≡ n + 1) (map (λ (z : OutLane). z.acked) outs) l [] all (subst (λ m. l < m) (sym (length_map (λ (z : OutLane). z.acked) outs)) h) in
    let same = ap length (ap (λ (z : OutLane). z.acked) there ∙ sym (get_map (λ (z : OutLane). z.acked) outs l no_out_lane)) in
    omega arith
