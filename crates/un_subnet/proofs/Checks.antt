-- Updates of small networks, and what they must give.
pub mod Pumps
pub mod Zones
