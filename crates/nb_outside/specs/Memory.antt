-- What sources, sinks and feeds over memory tell, and that they have counted nothing yet.
use Rattle.std.specs.Prelude.{◌≡◌, ℕ, List, [], Option, Some, drop}
use Rattle.nb_outside.specs.declared.memory.MemSource.{MemSource}
use Rattle.nb_outside.specs.declared.memory.MemSink.{MemSink}
use Rattle.nb_outside.specs.declared.feed.Drawn.{Drawn}
use Rattle.nb_outside.specs.declared.mem_feed.MemFeed.{MemFeed}
use Rattle.nb_outside.specs.declared.mem_feed.MemFeeds.{MemFeeds}
use Rattle.nb_outside.specs.declared.mem_feed.NoFeed.{NoFeed}
use Rattle.nb_outside.specs.Feeds.{Seen}

abbrev pub left : MemSource → Option (List ℕ)
left source = Some (drop source.at source.bytes.items)

abbrev pub written : MemSink → Option (List ℕ)
written sink = Some sink.bytes.items

abbrev pub IsNewSource : MemSource → Type 0
IsNewSource source = (source.reads ≡ 0) × (source.faults ≡ 0)

abbrev pub IsNewSink : MemSink → Type 0
IsNewSink sink = sink.faults ≡ 0

-- ---- feeds

abbrev pub seen_feed : MemFeed → Seen
seen_feed feed = record { made = Some feed.answers.items; left = Some (drop feed.at feed.answers.items); faults = feed.faults }

-- what each feed of these is made with
abbrev pub answers_of : MemFeeds → List Drawn
answers_of feeds = feeds.answers.items

abbrev pub given_by : MemFeeds → ℕ → Option (List Drawn)
given_by feeds kernel = Some (answers_of feeds)

-- the feed that has nothing to give
abbrev pub seen_none : NoFeed → Seen
seen_none feed = record { made = Some []; left = Some []; faults = feed.faults }

-- a feed that was made with these answers, and gave none yet
abbrev pub IsNewFeed : List Drawn → Seen → Type 0
IsNewFeed answers seen = seen ≡ record { made = Some answers; left = Some answers; faults = 0 }
