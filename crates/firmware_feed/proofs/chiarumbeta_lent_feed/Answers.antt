-- The feed is the one below, with both counts in one table.
use Rattle.firmware_feed.specs.Feed.{feeds}
use Rattle.firmware_feed.proofs.chiarumbeta_lent_feed.Goals as goal

pub returns : goal.returns
returns c = search feeds
