-- A replica as contracts see it: lists and a map, and the words of the table of turns as look-ups in them.
--     Lists, Replica, coded_replica      what a replica keeps; with its site; its code
--     words                              the words of the table of turns
use Rattle.std.specs.Prelude.{◌≡◌, ℕ, zero, suc, List, [], map, get_or, refl}
use Rattle.std.specs.Coded.{Coded, code_by, coded×, coded_ℕ, coded_list}
use Rattle.ham_syntax.specs.declared.act.Act.{Act}
use Rattle.ham_syntax.specs.declared.act.Call.{Call}
use Rattle.ham_syntax.specs.declared.act.Place.{Place}
use Rattle.ham_frame.specs.declared.frame.Ruled.{Ruled}
use Rattle.ham_frame.specs.declared.frame.Ruling.{Ruling}
use Rattle.ham_frame.specs.declared.frame.Ruling.TheVariants as rulings
use Rattle.ham_syntax.specs.declared.object.Invariant.{Invariant}
use Rattle.ham_state.specs.Content.{State}
use Rattle.ham_state.specs.Store.{Store, store}
use Rattle.ham_state.specs.declared.state.State.{the_code as coded_store}
use Rattle.ham_turns.specs.Words.{ReplicaWords, numbered}
use Rattle.ham_turns.specs.Work.{first_of_two}
use Rattle.ham_buffer.specs.Buffers.{Buffer, kept_call, coded_buffer, coded_call, coded_place, coded_act}
use Rattle.ham_resend.specs.declared.asks.Ask.{Ask}
use Rattle.ham_resend.specs.declared.asks.Asks.{the_code as coded_asks}
use Rattle.ham_resend.specs.Asking.{verdict_on}
use Rattle.ham_site.specs.Sites.{Site}
use Rattle.ham_site.specs.declared.site.Site.{the_code as coded_site}

pub record Lists : Type 0 where
  pub state : State
  -- the invariants for which the state was opened
  pub watched : List Invariant
  pub log : List Place
  -- how many calls of each slot are logged
  pub counts : List ℕ
  -- how many calls of each lane are logged
  pub logged : List ℕ
  -- by lane, the calls that were decided here
  pub decided : List (List Call)
  -- by lane and peer, up to which number the peer acknowledged
  pub acked : List (List ℕ)
  -- by lane, the calls that came and are logged
  pub came : List (List Call)
  -- the calls that came and wait
  pub buffer : Buffer
  -- by group, the requests that were made
  pub asks : List (List Ask)
  -- by sender and group, the rulings that were given
  pub rulings : List (List (List Ruled))

pub record Replica : Type 0 where
  pub site : Site
  pub lists : Lists

abbrev pub words : Lists → ReplicaWords
words v = record {
  state = v.state;
  log = v.log;
  count_of = λ s. get_or v.counts s 0;
  decided = λ l. get_or v.decided l [];
  kept = λ p. first_of_two (numbered (get_or v.came p.lane []) p.number) (kept_call v.buffer p);
  requests = λ g. map (λ a. a.act) (get_or v.asks g []);
  verdict = λ g n. verdict_on (numbered (get_or v.asks g []) n);
  rulings = λ from g. get_or (get_or v.rulings from []) g [];
  acked = λ l p. get_or (get_or v.acked l []) p 0;
}

-- ---- codes: a value with a map inside wants one by hand

-- a ruling as a number of its kind and a number in it
abbrev pub ruling_pair : Ruling → ℕ × ℕ
ruling_pair (rulings.Applied n) = (0, n)
ruling_pair (rulings.Guard g) = (1, g)
ruling_pair (rulings.Invariant i) = (2, i)
ruling_pair rulings.Full = (3, 0)

abbrev pub ruling_by_kind : ℕ → ℕ → Ruling
ruling_by_kind zero n = rulings.Applied n
ruling_by_kind (suc zero) n = rulings.Guard n
ruling_by_kind (suc (suc zero)) n = rulings.Invariant n
ruling_by_kind (suc (suc (suc k))) n = rulings.Full

pub ruling_back : (v : Ruling) → ruling_by_kind (ruling_pair v).0 (ruling_pair v).1 ≡ v
ruling_back (rulings.Applied n) = refl
ruling_back (rulings.Guard g) = refl
ruling_back (rulings.Invariant i) = refl
ruling_back rulings.Full = refl

abbrev pub coded_ruling : Coded Ruling
coded_ruling = code_by (ℕ × ℕ) (coded× coded_ℕ coded_ℕ) ruling_pair (λ t. ruling_by_kind t.0 t.1) ruling_back

abbrev pub coded_ruled : Coded Ruled
coded_ruled = code_by (Act × Ruling) (coded× coded_act coded_ruling) (λ d. (d.act, d.ruling)) (λ t. record { act = t.0; ruling = t.1 }) (λ _. refl)

abbrev pub coded_lists : Coded Lists
coded_lists =
    code_by
    (((Store × List Place) × (List ℕ × List ℕ)) × (((List (List Call) × List (List ℕ)) × List (List Call)) × (Buffer × (List (List Ask) × List (List (List Ruled))))))
    (coded× (coded× (coded× coded_store (coded_list coded_place)) (coded× (coded_list coded_ℕ) (coded_list coded_ℕ)))
    (coded× (coded× (coded× (coded_list (coded_list coded_call)) (coded_list (coded_list coded_ℕ))) (coded_list (coded_list coded_call)))
    (coded× coded_buffer (coded× coded_asks (coded_list (coded_list (coded_list coded_ruled)))))))
    (λ v. (((store v.state v.watched 0, v.log), (v.counts, v.logged)), (((v.decided, v.acked), v.came), (v.buffer, (v.asks, v.rulings)))))
    (λ t. record { state = t.0.0.0.content; watched = t.0.0.0.invariants; log = t.0.0.1; counts = t.0.1.0; logged = t.0.1.1; decided = t.1.0.0.0; acked = t.1.0.0.1; came = t.1.0.1; buffer = t.1.1.0; asks = t.1.1.1.0; rulings = t.1.1.1.1 })
    (λ _. refl)

abbrev pub coded_replica : Coded Replica
coded_replica = code_by (Site × Lists) (coded× coded_site coded_lists) (λ v. (v.site, v.lists)) (λ t. record { site = t.0; lists = t.1 }) (λ _. refl)
