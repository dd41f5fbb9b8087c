-- What a replica keeps that has taken in nothing.
use Rattle.std.specs.Prelude.{◌+◌, [], replicate}
use Rattle.ham_buffer.specs.Buffers.{begun}
use Rattle.ham_state.specs.Content.{State}
use Rattle.ham_site.specs.Sites.{Site, setting_at, slots_at}
use Rattle.ham_replica.specs.Values.{Lists}

abbrev pub opening_lists : Site → State → Lists
opening_lists site state = record {
  state = state;
  watched = site.object.invariants;
  log = [];
  counts = replicate (slots_at site) 0;
  logged = replicate (setting_at site).lanes 0;
  decided = replicate (setting_at site).lanes [];
  acked = replicate (setting_at site).lanes (replicate ((setting_at site).replicas + 1) 0);
  came = replicate (setting_at site).lanes [];
  buffer = begun (setting_at site).lanes (slots_at site);
  asks = replicate (setting_at site).groups [];
  rulings = replicate ((setting_at site).replicas + 1) (replicate (setting_at site).groups []);
}
