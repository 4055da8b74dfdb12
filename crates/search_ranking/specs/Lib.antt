pub mod Ranking
pub mod PoolLaws
pub mod RankingLaws
pub mod SinkLaws
pub mod WithinLaws
