pub mod KeyScan
pub mod KeyStops
pub mod OneFault
