-- What a turn changes in a replica's lists.
use Rattle.std.specs.Prelude.{ℕ, ◌+◌, ◌-◌, max, List, [], ◌∷◌, ◌++◌, get_or, set}
use Rattle.ham_syntax.specs.declared.act.Call.{Call}
use Rattle.ham_frame.specs.declared.frame.Ruled.{Ruled}
use Rattle.ham_frame.specs.declared.frame.Ruling.{Ruling}
use Rattle.ham_resend.specs.Asking.{told_at}
use Rattle.ham_turns.specs.Words.{place_of}
use Rattle.ham_buffer.specs.Buffers.{without}
use Rattle.ham_site.specs.Sites.{Site, rules_at, setting_at}
use Rattle.ham_replica.specs.Values.{Lists}

-- one more at an index
abbrev pub one_more : List ℕ → ℕ → List ℕ
one_more counts i = set counts i (get_or counts i 0 + 1)

-- an item more in the list at an index
abbrev pub with_item : {X : Type 0} → List (List X) → ℕ → X → List (List X)
with_item lists i x = set lists i (get_or lists i [] ++ x ∷ [])

-- the slot of a call
abbrev pub slot_of : Site → Call → ℕ
slot_of site c = (setting_at site).slot c.act.method ((setting_at site).decider c.lane)

-- a call that is decided here is logged
abbrev pub decide : Site → Lists → Call → Lists
decide site v c = record v {
  state = (rules_at site).update c.act v.state;
  log = v.log ++ place_of c ∷ [];
  counts = one_more v.counts (slot_of site c);
  logged = one_more v.logged c.lane;
  decided = with_item v.decided c.lane c;
}

-- a call that waits is logged
abbrev pub log_waiting : Site → Lists → Call → Lists
log_waiting site v c = record v {
  state = (rules_at site).update c.act v.state;
  log = v.log ++ place_of c ∷ [];
  counts = one_more v.counts (slot_of site c);
  logged = one_more v.logged c.lane;
  came = with_item v.came c.lane c;
  buffer = without v.buffer (place_of c);
}

-- a call that waited comes into the log, its lane and its slot
abbrev pub put_came : Lists → Call → ℕ → Lists
put_came v c slot = record v {
  log = v.log ++ place_of c ∷ [];
  counts = one_more v.counts slot;
  logged = one_more v.logged c.lane;
  came = with_item v.came c.lane c;
}

-- a call that is decided here comes into the log, its lane and its slot
abbrev pub put_decided : Lists → Call → ℕ → Lists
put_decided v c slot = record v {
  log = v.log ++ place_of c ∷ [];
  counts = one_more v.counts slot;
  logged = one_more v.logged c.lane;
  decided = with_item v.decided c.lane c;
}

-- the ruling on the next request of a sender to a group is kept
abbrev pub ruled_more : Lists → ℕ → ℕ → Ruled → Lists
ruled_more v from g d = record v { rulings = set v.rulings from (with_item (get_or v.rulings from []) g d) }

-- a peer acknowledged the calls of a lane up to this number
abbrev pub acked_more : Lists → ℕ → ℕ → ℕ → Lists
acked_more v lane peer n = record v { acked = set v.acked lane (set (get_or v.acked lane []) peer (max (get_or (get_or v.acked lane []) peer 0) n)) }

-- the first verdict on a request is kept
abbrev pub told_more : Lists → ℕ → ℕ → Ruling → Lists
told_more v g n ruling = record v { asks = set v.asks g (told_at (get_or v.asks g []) (n - 1) ruling) }
